-- A task waits in one broadcast alone: where it leaves that one, it has left all.
use Rattle.std.proofs.Common.{◌≡◌, ◌==◌, not, ℕ, zero, suc, ◌+◌, ◌<◌, nat_lt, cond, List, [], ◌∷◌, map, get_or, set, slice_get, length, None, Some, true, false}
use Rattle.std.proofs.Common.{Bool, refl, sym, ap, ◌∙◌, subst, arith}
use Rattle.std.specs.List.{All, AllPairs, filter, find, position, position_or_len, remove}
use Rattle.std.specs.Option.{IfSome, IsSomeAnd}
use Rattle.std.proofs.lemmas.Bool.Decides.{nat_tests}
use Rattle.std.proofs.lemmas.List.Elements.{All-head, All-tail}
use Rattle.std.proofs.lemmas.List.Folds.{find_at}
use Rattle.std.proofs.lemmas.List.Quantifiers.{position-Some}
use Rattle.std.proofs.lemmas.Option.{slice_get-get_or}
use Rattle.cred_model.specs.State.{Broadcast}
use Rattle.cred_model.specs.Broadcasts.{waits_in, is_open, without_waiter, waits_no_more, WaitsNowhere, SharesNone}
use Rattle.cred_model.proofs.Lists.{none_found}
use Rattle.cred_model.proofs.Rising.{AllPairs-head, AllPairs-tail, Below}
use Rattle.cred_broadcasts.specs.Broadcasts.{AreBroadcasts}
use Rattle.cred_broadcasts.proofs.Joined.{none_placed}
use Rattle.cred_broadcasts.proofs.Kept.{IsOpen}
use Rattle.cred_broadcasts.proofs.Falling.{one_fewer, stays}

-- those that are all open
all_open : (broadcasts : List Broadcast) → All IsOpen broadcasts → filter is_open broadcasts ≡ broadcasts
all_open [] are = refl
all_open (c ∷ cs) are =
    ap (λ b. cond b (c ∷ filter is_open cs) (filter is_open cs)) (All-head IsOpen c cs are)
    ∙ ap (λ bs. c ∷ bs) (all_open cs (All-tail IsOpen c cs are))

-- one among them that was changed
still_open : (broadcasts : List Broadcast) (place : ℕ) (now : Broadcast) → All IsOpen broadcasts → IsOpen now → place < length broadcasts
    → filter is_open (set broadcasts place now) ≡ set broadcasts place now
still_open [] place now are some within = absurd (omega arith)
still_open (c ∷ cs) zero now are some within =
    ap (λ b. cond b (now ∷ filter is_open cs) (filter is_open cs)) some
    ∙ ap (λ bs. now ∷ bs) (all_open cs (All-tail IsOpen c cs are))
still_open (c ∷ cs) (suc i) now are some within =
    ap (λ b. cond b (c ∷ filter is_open (set cs i now)) (filter is_open (set cs i now))) (All-head IsOpen c cs are)
    ∙ ap (λ bs. c ∷ bs) (still_open cs i now (All-tail IsOpen c cs are) some (omega arith))

closed_there : (broadcasts : List Broadcast) (place : ℕ) (now : Broadcast) → All IsOpen broadcasts → is_open now ≡ false → place < length broadcasts
    → filter is_open (set broadcasts place now) ≡ remove (set broadcasts place now) place
closed_there [] place now are none within = absurd (omega arith)
closed_there (c ∷ cs) zero now are none within =
    ap (λ b. cond b (now ∷ filter is_open cs) (filter is_open cs)) none
    ∙ all_open cs (All-tail IsOpen c cs are)
closed_there (c ∷ cs) (suc i) now are none within =
    ap (λ b. cond b (c ∷ filter is_open (set cs i now)) (filter is_open (set cs i now))) (All-head IsOpen c cs are)
    ∙ ap (λ bs. c ∷ bs) (closed_there cs i now (All-tail IsOpen c cs are) none (omega arith))

module _ (task : ℕ) where
  same_without : (c : Broadcast) → waits_in task c ≡ false → without_waiter task c ≡ c
  same_without c none = ap (λ (ws : List ℕ). record c { waiting = ws }) (stays task c.waiting none)

  none_left : (broadcasts : List Broadcast) → WaitsNowhere broadcasts task → map (without_waiter task) broadcasts ≡ broadcasts
  none_left [] nowhere = refl
  none_left (c ∷ cs) nowhere =
      ap (λ b. b ∷ map (without_waiter task) cs) (same_without c (All-head (λ b. waits_in task b ≡ false) c cs nowhere))
      ∙ ap (λ bs. c ∷ bs) (none_left cs (All-tail (λ b. waits_in task b ≡ false) c cs nowhere))

  not_there : (a b : Broadcast) → SharesNone a b → waits_in task b ≡ true → waits_in task a ≡ false
  not_there a b apart waits =
      elim (waits_in task a) as (λ s. waits_in task a ≡ s → s ≡ false) [
        | true ↦ λ there. let free = apart task there in sym waits ∙ free
        | false ↦ λ _. refl
      ] refl

  -- at the place of the broadcast that it waits in
  left_at : (broadcasts : List Broadcast) (place : ℕ) (d : Broadcast) → AllPairs SharesNone broadcasts → place < length broadcasts
      → waits_in task (get_or broadcasts place d) ≡ true
      → set broadcasts place (without_waiter task (get_or broadcasts place d)) ≡ map (without_waiter task) broadcasts
  left_at [] place d apart within waits = absurd (omega arith)
  left_at (c ∷ cs) zero d apart within waits =
      let others = AllPairs-head SharesNone c cs apart in
      ap (λ bs. without_waiter task c ∷ bs) (sym (none_left cs (λ k e lt. others k e lt task waits)))
  left_at (c ∷ cs) (suc i) d apart within waits =
      let inside : i < length cs = omega arith in
      let others = AllPairs-head SharesNone c cs apart in
      ap (λ bs. c ∷ bs) (left_at cs i d (AllPairs-tail SharesNone c cs apart) inside waits)
      ∙ ap (λ b. b ∷ map (without_waiter task) cs) (sym (same_without c (not_there c (get_or cs i d) (others i d inside) waits)))

-- what is found of a place is there
some_within : {X : Type 0} (P : X → Type 0) (xs : List X) (place : ℕ) → IsSomeAnd (slice_get xs place) P → place < length xs
some_within P [] place some = absurd some
some_within P (x ∷ xs) zero some = omega arith
some_within P (x ∷ xs) (suc i) some = let inside = some_within P xs i some in omega arith

-- the first place of a number is that of the broadcast that is found
pub placed_there : {X : Type 0} (p : X → Bool) (xs : List X) (place : ℕ) → position p xs ≡ Some place → slice_get xs place ≡ find p xs
placed_there p xs place is = sym (find_at p xs ∙ ap (slice_get xs) (by (nat_lt (position_or_len p xs) (length xs)) (position_or_len p xs) place is))
  where
    by : (b : Bool) (n m : ℕ) → cond b (Some n) None ≡ Some m → n ≡ m
    by true n m is = cc
    by false n m is = cc

pub placed_within : {X : Type 0} (p : X → Bool) (xs : List X) (place : ℕ) → position p xs ≡ Some place → place < length xs
placed_within p [] place is = absurd (cc)
placed_within p (x ∷ xs) place is = (position-Some p (x ∷ xs) place x is).0

pub none_there : {X : Type 0} (p : X → Bool) (xs : List X) → position p xs ≡ None → find p xs ≡ None
none_there p xs is = none_found p xs (none_placed p xs is)

-- the broadcast at this place
module _ (broadcasts : List Broadcast) (task place : ℕ) (broadcast : Broadcast) (are : AreBroadcasts broadcasts)
    (waits : IsSomeAnd (slice_get broadcasts place) (λ b. waits_in task b ≡ true)) (read : broadcast ≡ get_or broadcasts place broadcast) where
  pub within : place < length broadcasts
  within = some_within (λ b. waits_in task b ≡ true) broadcasts place waits

  is_broadcast : slice_get broadcasts place ≡ Some broadcast
  is_broadcast = slice_get-get_or broadcasts place broadcast within ∙ ap (λ (c : Broadcast). Some c) (sym read)

  here : waits_in task broadcast ≡ true
  here = subst (λ o. IsSomeAnd o (λ b. waits_in task b ≡ true)) is_broadcast waits

  up : AllPairs Below broadcast.waiting
  up = subst (λ (c : Broadcast). AllPairs Below c.waiting) (sym read) (are.rising place broadcast within)

  module _ (left : ℕ) (many : left + 1 ≡ length broadcast.waiting) where
    pub left_beside : IfSome (slice_get broadcasts place) (λ b. left + 1 ≡ length b.waiting)
    left_beside = subst (λ o. IfSome o (λ b. left + 1 ≡ length b.waiting)) (sym is_broadcast) many

    module _ (now : Broadcast) (leaves : now ≡ without_waiter task broadcast) where
      gone_there : set broadcasts place now ≡ map (without_waiter task) broadcasts
      gone_there =
          ap (set broadcasts place) (leaves ∙ ap (without_waiter task) read)
          ∙ left_at task broadcasts place broadcast are.apart within (sym (ap (waits_in task) read) ∙ here)

      as_many : length now.waiting ≡ left
      as_many =
          let fewer = one_fewer task broadcast.waiting up here in
          let long = ap (λ (c : Broadcast). length c.waiting) leaves in
          omega (arith, fewer, long, many)

      -- where others still wait there
      pub left_open : (left ≡ 0 → ⊥) → set broadcasts place now ≡ waits_no_more task broadcasts
      left_open some =
          let same = as_many in
          let open_now : is_open now ≡ true = grind (arith, nat_tests) in
          sym (still_open broadcasts place now are.some open_now within) ∙ ap (filter is_open) gone_there

      -- where nobody does
      pub left_closed : left ≡ 0 → remove (set broadcasts place now) place ≡ waits_no_more task broadcasts
      left_closed none =
          let closed_now : is_open now ≡ false = ap (λ n. not (n == 0)) (as_many ∙ none) in
          sym (closed_there broadcasts place now are.some closed_now within) ∙ ap (filter is_open) gone_there
