-- What a list refers to when one thing in it is changed, the one that has a number.
use Rattle.std.proofs.Common.{◌≡◌, ◌≢◌, ℕ, zero, suc, ◌+◌, Bool, true, false, cond, ◌==◌, List, [], ◌∷◌, map, find, Some, ap, ◌∙◌, refl, subst, arith}
use Rattle.std.specs.List.{All, AllPairs, count_by, flat_map}
use Rattle.std.proofs.lemmas.Bool.{eqb-true}
use Rattle.std.proofs.lemmas.Bool.Decides.{nat_tests}
use Rattle.std.proofs.lemmas.List.Elements.{All-head, All-tail}
use Rattle.cred_slots.proofs.Counting.{count-append}

module _ {X : Type 0} (number : X → ℕ) (to : X → X) (wanted : ℕ) where
  abbrev pub changed : X → X
  changed x = cond (number x == wanted) (to x) x

  -- the others stay
  changed-others : (xs : List X) → All (λ x. wanted ≢ number x) xs → map changed xs ≡ xs
  changed-others [] differ = refl
  changed-others (x ∷ xs) differ =
      let ne : wanted ≢ number x = All-head (λ y. wanted ≢ number y) x xs differ in
      let other : (number x == wanted) ≡ false = grind (arith, nat_tests) in
      ap (λ (b : Bool). cond b (to x) x ∷ map changed xs) other
      ∙ ap (λ (ys : List X). x ∷ ys) (changed-others xs (All-tail (λ y. wanted ≢ number y) x xs differ))

  module _ (refs : X → List ℕ) (test : ℕ → Bool) where
    abbrev count : List X → ℕ
    count xs = count_by test (flat_map refs xs)

    count_head : (x : X) (xs : List X) → count (x ∷ xs) ≡ count_by test (refs x) + count xs
    count_head x xs = count-append test (refs x) (flat_map refs xs)

    count_at : (same : Bool) (y x : X) (xs : List X) → (number y == wanted) ≡ same → AllPairs (λ a b. number a ≢ number b) (y ∷ xs)
        → cond same (Some y) (find (λ z. number z == wanted) xs) ≡ Some x
        → (find (λ z. number z == wanted) xs ≡ Some x → count (map changed xs) + count_by test (refs x) ≡ count xs + count_by test (refs (to x)))
        → count (cond same (to y) y ∷ map changed xs) + count_by test (refs x) ≡ count (y ∷ xs) + count_by test (refs (to x))
    count_at true y x xs is differ found rest =
        let one : y ≡ x = cc in
        let named : number y ≡ wanted = eqb-true (number y) wanted is in
        let apart : All (λ z. number y ≢ number z) xs = λ k d lt. differ zero (suc k) d (omega arith) (omega arith) in
        let others : map changed xs ≡ xs = changed-others xs (subst (λ (n : ℕ). All (λ z. n ≢ number z) xs) named apart) in
        let before = count_head y xs in
        let after = count_head (to y) (map changed xs) ∙ ap (λ (ys : List X). count_by test (refs (to y)) + count ys) others in
        let own : count_by test (refs y) ≡ count_by test (refs x) = ap (λ (z : X). count_by test (refs z)) one in
        let new : count_by test (refs (to y)) ≡ count_by test (refs (to x)) = ap (λ (z : X). count_by test (refs (to z))) one in
        omega (arith, before, after, own, new)
    count_at false y x xs is differ found rest =
        let before = count_head y xs in
        let after = count_head y (map changed xs) in
        let others = rest found in
        omega (arith, before, after, others)

    pub count-changed : (xs : List X) (x : X) → AllPairs (λ a b. number a ≢ number b) xs → find (λ y. number y == wanted) xs ≡ Some x
        → count_by test (flat_map refs (map changed xs)) + count_by test (refs x) ≡ count_by test (flat_map refs xs) + count_by test (refs (to x))
    count-changed [] x differ found = cc
    count-changed (y ∷ ys) x differ found =
        count_at (number y == wanted) y x ys refl differ found
        (λ there. count-changed ys x (λ i j d lt h. differ (suc i) (suc j) d (omega arith) (omega arith)) there)
