-- A new thread waits where its creator does: in one broadcast, or in none.
use Rattle.std.proofs.Common.{◌≡◌, ℕ, zero, suc, ◌<◌, ◌≤◌, nat_lt, cond, List, [], ◌∷◌, get_or, set, length, slice_get, Some, None, true, false, Bool}
use Rattle.std.proofs.Common.{if◌then◌else◌, refl, sym, ap, ◌∙◌, arith}
use Rattle.std.specs.List.{All, AllPairs, position, position_or_len}
use Rattle.std.proofs.lemmas.List.Elements.{All-head, All-tail}
use Rattle.std.proofs.lemmas.List.Folds.{find_at}
use Rattle.std.proofs.lemmas.List.Quantifiers.{position-Some}
use Rattle.std.proofs.lemmas.Option.{slice_get_past}
use Rattle.std.proofs.lemmas.Bool.Decides.{nat_tests}
use Rattle.cred_model.specs.State.{Broadcast}
use Rattle.cred_model.specs.Broadcasts.{waits_in, with_child, joined, WaitsNowhere, SharesNone}
use Rattle.cred_model.proofs.Lists.{found_none}
use Rattle.cred_model.proofs.Rising.{AllPairs-head, AllPairs-tail}
use Rattle.cred_broadcasts.proofs.Kept.{joins}

-- where no element has a place by a test, none passes it
pub none_placed : {X : Type 0} (p : X → Bool) (xs : List X) → position p xs ≡ None → All (λ x. p x ≡ false) xs
none_placed p xs none =
    let n = position_or_len p xs in
    found_none p xs (find_at p xs
    ∙ elim (nat_lt n (length xs)) as (λ b. nat_lt n (length xs) ≡ b → cond b (Some n) None ≡ None → slice_get xs n ≡ None) [
      | true ↦ λ within is. cc
      | false ↦ λ past _. let far : length xs ≤ n = grind (arith, nat_tests) in slice_get_past xs n far
    ] refl none)

module _ (parent child : ℕ) where
  here : (c : Broadcast) (waits : Bool) → waits_in parent c ≡ waits
      → with_child parent child c ≡ (if waits then joins parent child c else c)
  here c waits is = ap (λ s. if s then joins parent child c else c) is

  -- where the creator waits nowhere
  pub joined_none : (broadcasts : List Broadcast) → WaitsNowhere broadcasts parent → joined parent child broadcasts ≡ broadcasts
  joined_none [] nowhere = refl
  joined_none (c ∷ cs) nowhere =
      ap (λ b. b ∷ joined parent child cs) (here c false (All-head (λ b. waits_in parent b ≡ false) c cs nowhere))
      ∙ ap (λ bs. c ∷ bs) (joined_none cs (All-tail (λ b. waits_in parent b ≡ false) c cs nowhere))

  not_there : (a b : Broadcast) → SharesNone a b → waits_in parent b ≡ true → waits_in parent a ≡ false
  not_there a b apart waits =
      elim (waits_in parent a) as (λ s. waits_in parent a ≡ s → s ≡ false) [
        | true ↦ λ there. let free = apart parent there in sym waits ∙ free
        | false ↦ λ _. refl
      ] refl

  -- at the place of the broadcast that it waits in
  pub joined_at : (broadcasts : List Broadcast) (place : ℕ) (d : Broadcast) → AllPairs SharesNone broadcasts → place < length broadcasts
      → waits_in parent (get_or broadcasts place d) ≡ true
      → set broadcasts place (joins parent child (get_or broadcasts place d)) ≡ joined parent child broadcasts
  joined_at [] place d apart within waits = absurd (omega arith)
  joined_at (c ∷ cs) zero d apart within waits =
      let others = AllPairs-head SharesNone c cs apart in
      ap (λ b. b ∷ cs) (sym (here c true waits))
      ∙ ap (λ bs. with_child parent child c ∷ bs) (sym (joined_none cs (λ k e lt. others k e lt parent waits)))
  joined_at (c ∷ cs) (suc i) d apart within waits =
      let inside : i < length cs = omega arith in
      let others = AllPairs-head SharesNone c cs apart in
      ap (λ bs. c ∷ bs) (joined_at cs i d (AllPairs-tail SharesNone c cs apart) inside waits)
      ∙ ap (λ b. b ∷ joined parent child cs) (sym (here c false (not_there c (get_or cs i d) (others i d inside) waits)))

  -- by the place that a search for the creator gives
  pub joined_nowhere : (broadcasts : List Broadcast) → position (waits_in parent) broadcasts ≡ None → broadcasts ≡ joined parent child broadcasts
  joined_nowhere broadcasts none = sym (joined_none broadcasts (none_placed (waits_in parent) broadcasts none))

  pub joined_place : (broadcasts : List Broadcast) (place : ℕ) (broadcast now : Broadcast) → AllPairs SharesNone broadcasts
      → position (waits_in parent) broadcasts ≡ Some place → broadcast ≡ get_or broadcasts place broadcast → now ≡ joins parent child broadcast
      → set broadcasts place now ≡ joined parent child broadcasts
  joined_place broadcasts place broadcast now apart is read joins_it =
      let there = position-Some (waits_in parent) broadcasts place broadcast is in
      ap (set broadcasts place) (joins_it ∙ ap (joins parent child) read) ∙ joined_at broadcasts place broadcast apart there.0 there.1
