-- A state whose credentials stand in their slots' places, when one more is put there.
use Rattle.std.proofs.Common.{◌≡◌, ◌≢◌, ℕ, zero, suc, ◌<◌, ◌==◌, Bool, true, false, List, [], ◌∷◌, ◌++◌, map, length, Option, None, Some, slice_get, slice_set}
use Rattle.std.proofs.Common.{get_or, get_or-set_same, get_or-set_other, refl, sym, ap, ◌∙◌, subst, arith}
use Rattle.std.specs.List.{count_by}
use Rattle.std.specs.Option.{option_map_or}
use Rattle.std.proofs.lemmas.Bool.{eq-eqb}
use Rattle.std.proofs.lemmas.Option.{slice_get_within}
use Rattle.cred_record.specs.Credential.{Credential}
use Rattle.cred_event.specs.declared.answer.Answer.{Answer}
use Rattle.cred_model.specs.State.{State, SealedCred}
use Rattle.cred_model.specs.Slots.{in_use, refs}
use Rattle.cred_model.specs.Like.{IsLike, IsOutcomeLike}
use Rattle.cred_model.proofs.Lists.{slice_get-left}
use Rattle.cred_slots.specs.Table.{Table, IsOnlyUser, is_sealed_in, references_to}
use Rattle.cred_slots.proofs.Counting.{count-append}
use Rattle.cred_tables.specs.Kept.{StateLists, as_lists, stored_at, creds_in, state_of, IsKept}
use Rattle.cred_tables.proofs.Bags.{count-at}
use Rattle.cred_tables.proofs.Free.{IsTable}

-- ---- what an event does

-- where the event gives a state that this one is like
pub does_made : {gives : Answer × State} {answer : Answer} {made after : State} → gives ≡ (answer, made) → IsLike after made → IsOutcomeLike gives answer after
does_made {answer = answer} {after = after} is like =
    subst (λ (g : Answer × State). IsOutcomeLike g answer after) (sym is) (record { answers = refl; leads = like })

-- ---- the state that is kept

pub slots-creds_in : (store : List (Option Credential)) (slots : List ℕ) → map (λ sealed. sealed.slot) (creds_in store slots) ≡ slots
slots-creds_in store [] = refl
slots-creds_in store (slot ∷ slots) = ap (λ (rest : List ℕ). slot ∷ rest) (slots-creds_in store slots)

pub length-creds_in : (store : List (Option Credential)) (slots : List ℕ) → length (creds_in store slots) ≡ length slots
length-creds_in store [] = refl
length-creds_in store (slot ∷ slots) = ap suc (length-creds_in store slots)

pub is_table : {parts : StateLists} {store : List (Option Credential)} {t : Table}
    → IsKept parts store t → IsTable (state_of parts store t) t
is_table {store = store} {t = t} is = record { counted = is.counted; slots = slots-creds_in store t.sealed; deferred = refl }

-- ---- a credential is put in its place

placed_some : (store : List (Option Credential)) (slot : ℕ) (c : Credential) → slot < length store → stored_at (slice_set store slot (Some c)) slot ≡ c
placed_some store slot c lt = rw (get_or-set_same store slot (Some c) None lt) refl

-- Under a number that stands in another slot is what was there.
module _ (store : List (Option Credential)) (slot : ℕ) (c : Credential) (within : slot < length store) where
  abbrev put : List (Option Credential)
  put = slice_set store slot (Some c)

  same_at : (slots : List ℕ) (n : ℕ) → (slice_get slots n ≡ Some slot → ⊥)
      → slice_get (creds_in put (slots ++ slot ∷ [])) n ≡ slice_get (creds_in store slots ++ record { cred = c; slot = slot } ∷ []) n
  same_at [] zero other = ap (λ (x : Credential). Some (record { cred = x; slot = slot })) (placed_some store slot c within)
  same_at [] (suc n) other = refl
  same_at (s ∷ ss) zero other =
      let ne : s ≢ slot = λ same. other (ap Some same) in
      ap (λ (o : Option Credential). Some (record { cred = option_map_or (λ (x : Credential). x) o (stored_at [] 0); slot = s }))
      (get_or-set_other store slot s (Some c) None ne)
  same_at (s ∷ ss) (suc n) other = same_at ss n other

-- what is referred to is counted
refs-counted : {a : State} {t : Table} → IsTable a t → (k d : ℕ) → k < length (refs a) → 0 < references_to t (get_or (refs a) k d)
refs-counted {a = a} {t = t} is k d lt =
    let n : ℕ = get_or (refs a) k d in
    let test : ℕ → Bool = λ m. m == n in
    let some = count-at (refs a) k d lt in
    let all = count-append test (in_use a) a.deferred in
    let held = is.counted.counts.counts test in
    let late : count_by test a.deferred ≡ count_by test t.deferred = ap (λ ds. count_by test ds) is.deferred in
    let both = count-append test t.held t.deferred in
    omega (arith, some, all, held, late, both)

-- the parts of a state
abbrev pub parts_in : State → StateLists
parts_in s = as_lists s.tasks s.broadcasts s.files s.holds s.prepared s.dumpable s.inodes

-- The state in which the credential is put in the slot's place is like the one in which it is
-- sealed, since nothing else that stood there is referred to any more.
pub stored_like : {parts : StateLists} (store : List (Option Credential)) (t : Table) (before : List ℕ) (c : Credential) (slot : ℕ) (made : State)
    → IsKept parts (slice_set store slot (Some c)) t → t.sealed ≡ before ++ slot ∷ [] → slot < length store
    → IsOnlyUser t (length before) slot
    → parts ≡ parts_in made → t.deferred ≡ made.deferred
    → creds_in store before ++ record { cred = c; slot = slot } ∷ [] ≡ made.creds
    → IsLike (state_of parts (slice_set store slot (Some c)) t) made
stored_like {parts = parts} store t before c slot made is sealed within alone same same_deferred creds =
    let put = slice_set store slot (Some c) in
    let a : State = state_of parts put t in
    let old : (n : ℕ) → 0 < references_to t n → slice_get before n ≡ Some slot → ⊥
    = λ n some at.
    let lt = slice_get_within before n slot at in
    let place : slice_get t.sealed n ≡ Some slot = ap (λ ss. slice_get ss n) sealed ∙ slice_get-left before (slot ∷ []) n lt ∙ at in
    let stands : is_sealed_in t.sealed slot n ≡ true = ap (λ o. option_map_or (λ place. place == slot) o false) place ∙ eq-eqb slot slot refl in
    let is_new = alone.only n stands some in
    omega (arith, is_new, lt) in
    record {
      tasks = ap (λ (p : StateLists). p.tasks) same;
      broadcasts = ap (λ (p : StateLists). p.broadcasts) same;
      files = ap (λ (p : StateLists). p.files) same;
      holds = ap (λ (p : StateLists). p.holds) same;
      prepared = ap (λ (p : StateLists). p.prepared) same;
      deferred = same_deferred;
      dumpable = ap (λ (p : StateLists). p.dumpable) same;
      inodes = ap (λ (p : StateLists). p.inodes) same;
      slots = slots-creds_in put t.sealed ∙ sealed
          ∙ sym (ap (λ (cs : List SealedCred). map (λ sealed. sealed.slot) cs) (sym creds) ∙ slots-push before);
      creds = λ k d lt.
          let n : ℕ = get_or (refs a) k d in
          ap (λ ss. slice_get (creds_in put ss) n) sealed
          ∙ same_at store slot c within before n (old n (refs-counted (is_table is) k d lt))
          ∙ ap (λ (cs : List SealedCred). slice_get cs n) creds;
    }
  where
    slots-push : (ss : List ℕ) → map (λ sealed. sealed.slot) (creds_in store ss ++ record { cred = c; slot = slot } ∷ []) ≡ ss ++ slot ∷ []
    slots-push [] = refl
    slots-push (s ∷ ss) = ap (λ (rest : List ℕ). s ∷ rest) (slots-push ss)

-- ---- a slot in which nothing that is referred to stands

-- whatever is in its words, the same is under other numbers
module _ (store : List (Option Credential)) (slot : ℕ) (v : Option Credential) where
  other_at : (slots : List ℕ) (n : ℕ) → (slice_get slots n ≡ Some slot → ⊥)
      → slice_get (creds_in (slice_set store slot v) slots) n ≡ slice_get (creds_in store slots) n
  other_at [] n other = refl
  other_at (s ∷ ss) zero other =
      let ne : s ≢ slot = λ same. other (ap Some same) in
      ap (λ (o : Option Credential). Some (record { cred = option_map_or (λ (x : Credential). x) o (stored_at [] 0); slot = s }))
      (get_or-set_other store slot s v None ne)
  other_at (s ∷ ss) (suc n) other = other_at ss n other

pub spare_like : {parts : StateLists} (store : List (Option Credential)) (t : Table) (slot : ℕ) (v : Option Credential) → IsKept parts store t
    → ((n : ℕ) → slice_get t.sealed n ≡ Some slot → 0 < references_to t n → ⊥)
    → IsLike (state_of parts (slice_set store slot v) t) (state_of parts store t)
spare_like {parts = parts} store t slot v is none = record {
  tasks = refl;
  broadcasts = refl;
  files = refl;
  holds = refl;
  prepared = refl;
  deferred = refl;
  dumpable = refl;
  inodes = refl;
  slots = slots-creds_in (slice_set store slot v) t.sealed ∙ sym (slots-creds_in store t.sealed);
  creds = λ k d lt.
      let n : ℕ = get_or (refs (state_of parts store t)) k d in
      other_at store slot v t.sealed n (λ at. none n at (refs-counted (is_table is) k d lt));
}
