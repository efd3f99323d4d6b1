-- What is found in a list, and what is changed there.
use Rattle.std.proofs.Common.{◌≡◌, ◌≢◌, ℕ, zero, suc, ◌<◌, ◌≤◌, ◌==◌, nat_lt, List, [], ◌∷◌, find, position, map, get_or, set, length, slice_get, Bool}
use Rattle.std.proofs.Common.{true, false, cond, Option, Some, None, refl, sym, ap, ◌∙◌, subst, arith}
use Rattle.std.specs.List.{All, AllPairs, position_or_len}
use Rattle.std.specs.Option.{IfSome, option_map}
use Rattle.std.proofs.lemmas.Bool.Decides.{nat_tests}
use Rattle.std.proofs.lemmas.List.Elements.{All-head, All-tail}
use Rattle.std.proofs.lemmas.List.Folds.{find_at}
use Rattle.std.proofs.lemmas.List.Quantifiers.{position-Some}
use Rattle.std.proofs.lemmas.Option.{slice_get-get_or, slice_get_past}
use Rattle.cred_model.specs.State.{Changed, Prepared, Task}
use Rattle.cred_model.specs.Moves.{altered_at, overriding, with_change, with_overrides}
use Rattle.cred_model.proofs.Lists.{found_none}
use Rattle.cred_model.proofs.Places.{find-at}
use Rattle.cred_model.proofs.Rising.{AllPairs-head, AllPairs-tail}
use Rattle.cred_plain.specs.Tasks.{OfOneTask}

-- the element at the place where one was found
pub at_place : {X : Type 0} (p : X → Bool) (xs : List X) (place : ℕ) (x : X) → position p xs ≡ Some place → x ≡ get_or xs place x
    → slice_get xs place ≡ Some x
at_place p xs place x found is = slice_get-get_or xs place x (position-Some p xs place x found).0 ∙ ap Some (sym is)

-- a value behind a reference that was found
pub found_is : {X Y : Type 0} (f : X → Y) (found : Option X) (there : Option Y) (x : X) → option_map f found ≡ there → found ≡ Some x → there ≡ Some (f x)
found_is f found there x is at = sym is ∙ ap (option_map f) at

-- none was found
pub none_is : {X Y : Type 0} (f : X → Y) (found : Option X) (there : Option Y) → option_map f found ≡ there → found ≡ None → there ≡ None
none_is f found there is at = sym is ∙ ap (option_map f) at

-- Where no two have one number, a change of those of one number is a change at the place where the first is found.
module _ {X : Type 0} (f : X → ℕ) (g : X → X) (wanted : ℕ) (leaves : (x : X) → f x ≢ wanted → g x ≡ x) where
  pub all_left : (xs : List X) → All (λ x. f x ≢ wanted) xs → map g xs ≡ xs
  all_left [] others = refl
  all_left (x ∷ xs) others =
      ap (λ y. y ∷ map g xs) (leaves x (All-head (λ x. f x ≢ wanted) x xs others))
      ∙ ap (λ ys. x ∷ ys) (all_left xs (All-tail (λ x. f x ≢ wanted) x xs others))

  pub changed_there : (xs : List X) (place : ℕ) (d : X) → AllPairs (λ x y. f x ≢ f y) xs → place < length xs → f (get_or xs place d) ≡ wanted
      → set xs place (g (get_or xs place d)) ≡ map g xs
  changed_there [] place d apart within is = absurd (omega arith)
  changed_there (x ∷ xs) zero d apart within is =
      let others = AllPairs-head (λ x y. f x ≢ f y) x xs apart in
      ap (λ ys. g x ∷ ys) (sym (all_left xs (λ k e lt. let differs = others k e lt in λ same. differs (is ∙ sym same))))
  changed_there (x ∷ xs) (suc i) d apart within is =
      let inside : i < length xs = omega arith in
      let others = AllPairs-head (λ x y. f x ≢ f y) x xs apart in
      ap (λ ys. x ∷ ys) (changed_there xs i d (AllPairs-tail (λ x y. f x ≢ f y) x xs apart) inside is)
      ∙ ap (λ y. y ∷ map g xs) (sym (leaves x (λ same. others i d inside (same ∙ sym is))))

pub none_there : {X : Type 0} (p : X → Bool) (xs : List X) → position p xs ≡ None → find p xs ≡ None
none_there p xs none =
    let n = position_or_len p xs in
    find_at p xs
    ∙ elim (nat_lt n (length xs)) as (λ b. nat_lt n (length xs) ≡ b → cond b (Some n) None ≡ None → slice_get xs n ≡ None) [
      | true ↦ λ within is. cc
      | false ↦ λ past _. let far : length xs ≤ n = grind (arith, nat_tests) in slice_get_past xs n far
    ] refl none

-- ---- one task acts with other credentials

module _ (task : ℕ) where
  override-others : (os : List ℕ) (t : Task) → t.number ≢ task → overriding task os t ≡ t
  override-others os t other = let test : (t.number == task) ≡ false = grind (arith, nat_tests) in rw test refl

  override-here : (os : List ℕ) (t : Task) → t.number ≡ task → overriding task os t ≡ record t { overrides = os }
  override-here os t same = let test : (t.number == task) ≡ true = grind (arith, nat_tests) in rw test refl

  module _ (tasks : List Task) (place : ℕ) (t : Task) (at : position (λ (o : Task). o.number == task) tasks ≡ Some place) (is : t ≡ get_or tasks place t) where
    own : (get_or tasks place t).number ≡ task
    own =
        let test : ((get_or tasks place t).number == task) ≡ true = (position-Some (λ (o : Task). o.number == task) tasks place t at).1 in
        grind (arith, nat_tests)

    pub found_one : find (λ (o : Task). o.number == task) tasks ≡ Some t
    found_one =
        find-at (λ (o : Task). o.number == task) tasks place t at
        (at_place (λ (o : Task). o.number == task) tasks place t at is)

    overridden_at : (now : Task) (os : List ℕ) → now ≡ record t { overrides = os } → AllPairs (λ (a b : Task). a.number ≢ b.number) tasks
        → set tasks place now ≡ with_overrides tasks task os
    overridden_at now os made apart =
        ap (set tasks place) (made ∙ ap (λ (u : Task). record u { overrides = os }) is ∙ sym (override-here os (get_or tasks place t) own))
        ∙ changed_there (λ (u : Task). u.number) (overriding task os) task (override-others os) tasks place t apart
        (position-Some (λ (o : Task). o.number == task) tasks place t at).0 own

    -- by what its overrides were
    pub one_overrides : (f : List ℕ → List ℕ) (now : Task) → now ≡ record t { overrides = f t.overrides }
        → OfOneTask tasks task (λ owner. set tasks place now ≡ with_overrides tasks task (f owner.overrides))
    one_overrides f now made = λ apart.
        subst (λ (o : Option Task). IfSome o (λ owner. set tasks place now ≡ with_overrides tasks task (f owner.overrides))) (sym found_one)
        (overridden_at now (f t.overrides) made apart)

-- where there is no such task
pub one_none : (P : Task → Type 0) (tasks : List Task) (task : ℕ) → position (λ (o : Task). o.number == task) tasks ≡ None → OfOneTask tasks task P
one_none P tasks task none = λ apart.
    subst (λ (o : Option Task). IfSome o P) (sym (none_there (λ (o : Task). o.number == task) tasks none)) tt

-- ---- one label was changed

module _ (label : ℕ) (to : Changed) where
  change-others : (p : Prepared) → p.label ≢ label → altered_at label to p ≡ p
  change-others p other = let test : (p.label == label) ≡ false = grind (arith, nat_tests) in rw test refl

  change-here : (p : Prepared) → p.label ≡ label → altered_at label to p ≡ record p { changed = Some to }
  change-here p same = let test : (p.label == label) ≡ true = grind (arith, nat_tests) in rw test refl

  pub changed_one : (ps : List Prepared) (place : ℕ) (p now : Prepared) → position (λ (q : Prepared). q.label == label) ps ≡ Some place
      → p ≡ get_or ps place p → now ≡ record p { changed = Some to } → AllPairs (λ (a b : Prepared). a.label ≢ b.label) ps
      → set ps place now ≡ with_change ps label to
  changed_one ps place p now at is made apart =
      let there = position-Some (λ (q : Prepared). q.label == label) ps place p at in
      let test : ((get_or ps place p).label == label) ≡ true = there.1 in
      let own : (get_or ps place p).label ≡ label = grind (arith, nat_tests) in
      ap (set ps place) (made ∙ ap (λ (q : Prepared). record q { changed = Some to }) is ∙ sym (change-here (get_or ps place p) own))
      ∙ changed_there (λ (q : Prepared). q.label) (altered_at label to) label change-others ps place p apart there.0 own

  pub changed_none : (ps : List Prepared) → position (λ (q : Prepared). q.label == label) ps ≡ None → ps ≡ with_change ps label to
  changed_none ps none =
      let fails = found_none (λ (q : Prepared). q.label == label) ps (none_there (λ (q : Prepared). q.label == label) ps none) in
      sym (all_left (λ (q : Prepared). q.label) (altered_at label to) label change-others ps
      (λ k e lt.
      let test : ((get_or ps k e).label == label) ≡ false = fails k e lt in
      let differs : (get_or ps k e).label ≢ label = grind (arith, nat_tests) in
      differs))
