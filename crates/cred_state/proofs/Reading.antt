-- A credential that is found, and that something refers to, stands in the words of its slot.
use Rattle.std.proofs.Common.{◌≡◌, ◌≢◌, ℕ, ◌<◌, ◌==◌, Bool, true, false, zero, suc, List, [], ◌∷◌, Option, None, Some, slice_get, get_or, refl, sym, ap, ◌∙◌}
use Rattle.std.proofs.Common.{subst, arith}
use Rattle.std.specs.List.{count_by}
use Rattle.std.specs.Option.{IsSome, option_map, option_map_or, option_and_then}
use Rattle.std.proofs.lemmas.Bool.Decides.{nat_tests}
use Rattle.std.proofs.lemmas.Option.{get_or_from_slice_get, same_Some, slice_get_within}
use Rattle.cred_record.specs.Credential.{Credential}
use Rattle.cred_model.specs.State.{State, Numbered, SealedCred, numbered, no_credential}
use Rattle.cred_model.specs.Slots.{in_use}
use Rattle.cred_model.proofs.Lists.{slice_get-left}
use Rattle.cred_model.proofs.Numbers.{numbered_is}
use Rattle.cred_hold.specs.Tokens.{IsSealed}
use Rattle.cred_slots.specs.Table.{Table, free_in, references_to, is_sealed_in}
use Rattle.cred_slots.proofs.Counting.{count-append}
use Rattle.cred_tables.specs.Kept.{StateLists, stored_at, creds_in, cred_under, seen_in, state_of, AreInPlace, IsInUse, IsKept, Seals}
use Rattle.cred_tables.specs.declared.table.NumberedSlot as table
use Rattle.cred_tables.proofs.Sealing.{used_is_referred}

-- what is found by the number of something that refers
pub is_found : {X : Type 0} (creds : List SealedCred) (number : X → ℕ) (there : Option X) (c : Numbered)
    → option_and_then (λ x. numbered creds (number x)) there ≡ Some c → numbered creds c.number ≡ Some c
is_found creds number None c is = cc
is_found creds number (Some x) c is =
    let same = (numbered_is creds (number x) c is).0 in
    subst (λ (n : ℕ). numbered creds n ≡ Some c) (sym same) is

-- the slot that is taken next in a table with more room to spare
pub some_spare : (t : Table) {r : Table} {m slot : ℕ} → r ≡ record t { spare = m } → free_in r ≡ Some slot → free_in t ≡ Some slot
some_spare t {slot = slot} is takes = subst (λ (x : Table). free_in x ≡ Some slot) is takes

-- the slot of what is sealed
at_slot : (places : List (Option Credential)) (slots : List ℕ) (n : ℕ) (x : SealedCred) → slice_get (creds_in places slots) n ≡ Some x
    → slice_get slots n ≡ Some x.slot
at_slot places [] n x at = cc
at_slot places (s ∷ slots) zero x at = ap (λ (o : Option SealedCred). option_map (λ x. x.slot) o) at
at_slot places (s ∷ slots) (suc n) x at = at_slot places slots n x at

-- what is sealed is what stands in its slot's place
at_place : (places : List (Option Credential)) (slots : List ℕ) (n : ℕ) (x : SealedCred) → slice_get (creds_in places slots) n ≡ Some x
    → x.cred ≡ stored_at places x.slot
at_place places [] n x at = cc
at_place places (s ∷ slots) zero x at =
    let same : record { cred = stored_at places s; slot = s } ≡ x = same_Some _ _ at in
    subst (λ (y : SealedCred). y.cred ≡ stored_at places y.slot) same refl
at_place places (s ∷ slots) (suc n) x at = at_place places slots n x at

-- a place that is filled has a credential
filled_is : (places : List (Option Credential)) (slot : ℕ) → IsSome (get_or places slot None)
    → slice_get places slot ≡ Some (Some (stored_at places slot))
filled_is [] slot is = absurd (cc)
filled_is (None ∷ places) zero is = absurd (cc)
filled_is (Some c ∷ places) zero is = refl
filled_is (p ∷ places) (suc slot) is = filled_is places slot is

module _ {parts : StateLists} {places : List (Option Credential)} {t : Table} (is : IsKept parts places t) where
  abbrev s : State
  s = state_of parts places t

  -- what is found and referred to is in its place
  in_place : (n : ℕ) (x : SealedCred) → 0 < references_to t n → slice_get s.creds n ≡ Some x → slice_get places x.slot ≡ Some (Some x.cred)
  in_place n x referred at =
      filled_is places x.slot (is.filled.each n x.slot (at_slot places t.sealed n x at) referred)
      ∙ ap (λ (c : Credential). Some (Some c)) (sym (at_place places t.sealed n x at))

  module _ (found : table.NumberedSlot) (there : numbered s.creds found.number ≡ Some (seen_in s.creds found)) (used : IsInUse s found.number) where
    pub found-place : slice_get places found.slot ≡ Some (Some (cred_under s.creds found.number))
    found-place = in_place found.number _ (used_is_referred is found.number used) (numbered_is s.creds found.number _ there).1

    pub found-slot : slice_get t.sealed found.number ≡ Some found.slot
    found-slot = at_slot places t.sealed found.number _ (numbered_is s.creds found.number _ there).1

    pub found-sealed : IsSealed places found.slot
    found-sealed = (cred_under s.creds found.number, found-place)

  -- so is all that something refers to
  pub are_in_place : AreInPlace s places
  are_in_place n x some at =
      let test : ℕ → Bool = λ m. m == n in
      let all = count-append test (in_use s) s.deferred in
      let held = is.counted.counts.counts test in
      let each = count-append test t.held t.deferred in
      in_place n x (omega (arith, some, all, held, each)) at

-- what is read is what is seen under the number
pub found-there : (places : List (Option Credential)) (sealed : List ℕ) (found : table.NumberedSlot)
    → numbered (creds_in places sealed) found.number ≡ Some (seen_in (creds_in places sealed) found)
    → (c : Credential) → slice_get places found.slot ≡ Some (Some c) → c ≡ cred_under (creds_in places sealed) found.number
found-there places sealed found is c there =
    let x = (numbered_is (creds_in places sealed) found.number _ is).1 in
    let own = at_place places sealed found.number _ x in
    sym (own ∙ ap (λ (o : Option Credential). option_map_or (λ (d : Credential). d) o no_credential)
    (get_or_from_slice_get places found.slot (Some c) None there))

itself : (n : ℕ) → (n == n) ≡ true
itself n = grind (arith, nat_tests)

-- The slot that the next number was sealed in is none in which a number stands that is referred to.
pub stands_apart : {before after : Table} {number slot : ℕ} → Seals before after number slot → (n own : ℕ) → slice_get before.sealed n ≡ Some own
    → 0 < count_by (λ m. m == n) after.held
    → own ≢ slot
stands_apart {before = before} {after = after} {number = number} {slot = slot} seals n own is many same =
    let small = slice_get_within before.sealed n own is in
    let there : slice_get after.sealed n ≡ Some slot
    = ap (λ (ns : List ℕ). slice_get ns n) seals.sealed ∙ slice_get-left before.sealed (slot ∷ []) n small ∙ is ∙ ap (λ (s : ℕ). Some s) same in
    let stands : is_sealed_in after.sealed slot n ≡ true
    = ap (λ (o : Option ℕ). option_map_or (λ place. place == slot) o false) there ∙ itself slot in
    let all = count-append (λ m. m == n) after.held after.deferred in
    let one = seals.alone.only n stands (omega (arith, all, many)) in
    let next = seals.counted in
    omega (arith, small, one, next)
