-- The least that waits in a broadcast waits no more.
use Rattle.std.proofs.Common.{◌≡◌, ◌==◌, ◌||◌, not, ℕ, zero, suc, ◌<◌, cond, List, [], ◌∷◌, drop, map, get_or, set, slice_get, length, Some, true}
use Rattle.std.proofs.Common.{false, Bool, refl, sym, ap, ◌∙◌, subst, arith}
use Rattle.std.specs.List.{All, AllPairs, filter, list_any, remove}
use Rattle.std.specs.Option.{IsSomeAnd}
use Rattle.std.proofs.lemmas.Bool.Decides.{nat_tests}
use Rattle.std.proofs.lemmas.List.Elements.{All-head, All-tail}
use Rattle.std.proofs.lemmas.Option.{slice_get-get_or}
use Rattle.cred_model.specs.State.{Broadcast}
use Rattle.cred_model.specs.Broadcasts.{waits_in, is_open, without_waiter, waits_no_more, SharesNone, WaitsNowhere}
use Rattle.cred_model.proofs.Rising.{AllPairs-head, AllPairs-tail, Below}
use Rattle.cred_plain.specs.Broadcasts.{AreWaitedFor}

abbrev IsOpen : Broadcast → Type 0
IsOpen b = is_open b ≡ true

-- ---- those that are open

all_open : (broadcasts : List Broadcast) → All IsOpen broadcasts → filter is_open broadcasts ≡ broadcasts
all_open [] are = refl
all_open (c ∷ cs) are =
    ap (λ b. cond b (c ∷ filter is_open cs) (filter is_open cs)) (All-head IsOpen c cs are)
    ∙ ap (λ bs. c ∷ bs) (all_open cs (All-tail IsOpen c cs are))

-- one among them that was changed
still_open : (broadcasts : List Broadcast) (place : ℕ) (now : Broadcast) → All IsOpen broadcasts → IsOpen now → place < length broadcasts
    → filter is_open (set broadcasts place now) ≡ set broadcasts place now
still_open [] place now are some within = absurd (omega arith)
still_open (c ∷ cs) zero now are some within =
    ap (λ b. cond b (now ∷ filter is_open cs) (filter is_open cs)) some
    ∙ ap (λ bs. now ∷ bs) (all_open cs (All-tail IsOpen c cs are))
still_open (c ∷ cs) (suc i) now are some within =
    ap (λ b. cond b (c ∷ filter is_open (set cs i now)) (filter is_open (set cs i now))) (All-head IsOpen c cs are)
    ∙ ap (λ bs. c ∷ bs) (still_open cs i now (All-tail IsOpen c cs are) some (omega arith))

closed_there : (broadcasts : List Broadcast) (place : ℕ) (now : Broadcast) → All IsOpen broadcasts → is_open now ≡ false → place < length broadcasts
    → filter is_open (set broadcasts place now) ≡ remove (set broadcasts place now) place
closed_there [] place now are none within = absurd (omega arith)
closed_there (c ∷ cs) zero now are none within =
    ap (λ b. cond b (now ∷ filter is_open cs) (filter is_open cs)) none
    ∙ all_open cs (All-tail IsOpen c cs are)
closed_there (c ∷ cs) (suc i) now are none within =
    ap (λ b. cond b (c ∷ filter is_open (set cs i now)) (filter is_open (set cs i now))) (All-head IsOpen c cs are)
    ∙ ap (λ bs. c ∷ bs) (closed_there cs i now (All-tail IsOpen c cs are) none (omega arith))

module _ (task : ℕ) where
  abbrev stays : ℕ → Bool
  stays n = not (n == task)

  -- ---- in one broadcast

  -- what a task that isn't among them leaves
  none_there : (ns : List ℕ) → list_any (λ n. n == task) ns ≡ false → filter stays ns ≡ ns
  none_there [] none = refl
  none_there (n ∷ ns) none =
      elim (n == task) as (λ b. ((b || list_any (λ m. m == task) ns) ≡ false) → cond (not b) (n ∷ filter stays ns) (filter stays ns) ≡ n ∷ ns) [
        | true ↦ λ is. cc
        | false ↦ λ is. ap (λ ms. n ∷ ms) (none_there ns is)
      ] none

  -- nor one that they are all above
  above_stay : (ns : List ℕ) → All (Below task) ns → filter stays ns ≡ ns
  above_stay [] above = refl
  above_stay (n ∷ ns) above =
      let over = All-head (Below task) n ns above in
      let other : (n == task) ≡ false = grind (arith, nat_tests) in
      ap (λ b. cond (not b) (n ∷ filter stays ns) (filter stays ns)) other
      ∙ ap (λ ms. n ∷ ms) (above_stay ns (All-tail (Below task) n ns above))

  self : (task == task) ≡ true
  self = grind (arith, nat_tests)

  -- the first of a rising list, left out
  first_leaves : (ns : List ℕ) → AllPairs Below ns → slice_get ns 0 ≡ Some task → drop 1 ns ≡ filter stays ns
  first_leaves [] up first = cc
  first_leaves (n ∷ ns) up first =
      let same : n ≡ task = cc in
      let above = AllPairs-head Below n ns up in
      sym
      (ap (λ m. filter stays (m ∷ ns)) same
      ∙ ap (λ b. cond (not b) (task ∷ filter stays ns) (filter stays ns)) self
      ∙ above_stay ns (subst (λ m. All (Below m) ns) same above))

  first_waits : (ns : List ℕ) → slice_get ns 0 ≡ Some task → list_any (λ n. n == task) ns ≡ true
  first_waits [] first = cc
  first_waits (n ∷ ns) first =
      let same : n ≡ task = cc in
      ap (λ b. b || list_any (λ m. m == task) ns) (ap (λ m. m == task) same ∙ self)

  -- ---- among all broadcasts

  same_without : (c : Broadcast) → waits_in task c ≡ false → without_waiter task c ≡ c
  same_without c none = ap (λ (ws : List ℕ). record c { waiting = ws }) (none_there c.waiting none)

  none_left : (broadcasts : List Broadcast) → WaitsNowhere broadcasts task → map (without_waiter task) broadcasts ≡ broadcasts
  none_left [] nowhere = refl
  none_left (c ∷ cs) nowhere =
      ap (λ b. b ∷ map (without_waiter task) cs) (same_without c (All-head (λ b. waits_in task b ≡ false) c cs nowhere))
      ∙ ap (λ bs. c ∷ bs) (none_left cs (All-tail (λ b. waits_in task b ≡ false) c cs nowhere))

  not_there : (a b : Broadcast) → SharesNone a b → waits_in task b ≡ true → waits_in task a ≡ false
  not_there a b apart waits =
      elim (waits_in task a) as (λ s. waits_in task a ≡ s → s ≡ false) [
        | true ↦ λ there. let free = apart task there in sym waits ∙ free
        | false ↦ λ _. refl
      ] refl

  -- at the place of the broadcast that it waits in
  left_at : (broadcasts : List Broadcast) (place : ℕ) (d : Broadcast) → AllPairs SharesNone broadcasts → place < length broadcasts
      → waits_in task (get_or broadcasts place d) ≡ true
      → set broadcasts place (without_waiter task (get_or broadcasts place d)) ≡ map (without_waiter task) broadcasts
  left_at [] place d apart within waits = absurd (omega arith)
  left_at (c ∷ cs) zero d apart within waits =
      let others = AllPairs-head SharesNone c cs apart in
      ap (λ bs. without_waiter task c ∷ bs) (sym (none_left cs (λ k e lt. others k e lt task waits)))
  left_at (c ∷ cs) (suc i) d apart within waits =
      let inside : i < length cs = omega arith in
      let others = AllPairs-head SharesNone c cs apart in
      ap (λ bs. c ∷ bs) (left_at cs i d (AllPairs-tail SharesNone c cs apart) inside waits)
      ∙ ap (λ b. b ∷ map (without_waiter task) cs) (sym (same_without c (not_there c (get_or cs i d) (others i d inside) waits)))

-- what is found of a place is there
pub some_within : {X : Type 0} (P : X → Type 0) (xs : List X) (place : ℕ) → IsSomeAnd (slice_get xs place) P → place < length xs
some_within P [] place some = absurd some
some_within P (x ∷ xs) zero some = omega arith
some_within P (x ∷ xs) (suc i) some = let inside = some_within P xs i some in omega arith

some_first : (ns : List ℕ) (task : ℕ) → slice_get ns 0 ≡ Some task → 0 < length ns
some_first [] task first = cc
some_first (n ∷ ns) task first = omega arith

-- the broadcast at this place, in which the task is the least that waits
module _ (broadcasts : List Broadcast) (task place : ℕ) (broadcast : Broadcast) (are : AreWaitedFor broadcasts)
    (least : IsSomeAnd (slice_get broadcasts place) (λ b. slice_get b.waiting 0 ≡ Some task)) (read : broadcast ≡ get_or broadcasts place broadcast) where
  within : place < length broadcasts
  within = some_within (λ (b : Broadcast). slice_get b.waiting 0 ≡ Some task) broadcasts place least

  first : slice_get broadcast.waiting 0 ≡ Some task
  first =
      subst (λ o. IsSomeAnd o (λ (b : Broadcast). slice_get b.waiting 0 ≡ Some task))
      (slice_get-get_or broadcasts place broadcast within ∙ ap (λ (c : Broadcast). Some c) (sym read)) least

  up : AllPairs Below broadcast.waiting
  up = subst (λ (c : Broadcast). AllPairs Below c.waiting) (sym read) (are.rising place broadcast within)

  pub somebody : 0 < length broadcast.waiting
  somebody = some_first broadcast.waiting task first

  module _ (now : Broadcast) (steps : now ≡ record broadcast { waiting = drop 1 broadcast.waiting }) where
    gone_there : set broadcasts place now ≡ map (without_waiter task) broadcasts
    gone_there =
        ap (set broadcasts place)
        (steps ∙ ap (λ (ws : List ℕ). record broadcast { waiting = ws }) (first_leaves task broadcast.waiting up first) ∙ ap (without_waiter task) read)
        ∙ left_at task broadcasts place broadcast are.apart within (sym (ap (waits_in task) read) ∙ first_waits task broadcast.waiting first)

    -- where others still wait there
    pub left_open : is_open now ≡ true → set broadcasts place now ≡ waits_no_more task broadcasts
    left_open some = sym (still_open broadcasts place now are.some some within) ∙ ap (filter is_open) gone_there

    -- where nobody does
    pub left_closed : is_open now ≡ false → remove (set broadcasts place now) place ≡ waits_no_more task broadcasts
    left_closed none = sym (closed_there broadcasts place now are.some none within) ∙ ap (filter is_open) gone_there
