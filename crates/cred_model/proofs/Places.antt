-- The first that passes a test, and its place.
use Rattle.std.proofs.Common.{◌≡◌, ℕ, zero, suc, ◌+◌, ◌<◌, Bool, true, false, not, cond, nat_lt, List, [], ◌∷◌, length, find, is_some, position, slice_get}
use Rattle.std.proofs.Common.{get_or, Option, None, Some, refl, ap, ◌∙◌, subst, arith}
use Rattle.std.specs.List.{prefix_len}
use Rattle.std.specs.Option.{IfSome}
use Rattle.std.proofs.lemmas.Bool.Decides.{nat_tests}
use Rattle.std.proofs.lemmas.List.Quantifiers.{position-Some}
use Rattle.std.proofs.lemmas.Option.{get_or_from_slice_get}

pub find-first : {X : Type 0} (test : X → Bool) (xs : List X) (i : ℕ) (d : X) → i < length xs → test (get_or xs i d) ≡ true
    → ((k : ℕ) → k < i → test (get_or xs k d) ≡ false) → find test xs ≡ Some (get_or xs i d)
find-first test [] i d within here before = absurd (omega arith)
find-first test (x ∷ xs) zero d within here before = ap (λ b. cond b (Some x) (find test xs)) here
find-first test (x ∷ xs) (suc i) d within here before =
    ap (λ b. cond b (Some x) (find test xs)) (before 0 (omega arith))
    ∙ find-first test xs i d (omega arith) here (λ k h. before (suc k) (omega arith))

-- what stands at the place of the first that passes is what is found
pub find-at : {X : Type 0} (test : X → Bool) (xs : List X) (place : ℕ) (x : X) → position test xs ≡ Some place → slice_get xs place ≡ Some x
    → find test xs ≡ Some x
find-at test xs place x found there =
    let at = position-Some test xs place x found in
    find-first test xs place x at.0 at.1 at.2 ∙ ap Some (get_or_from_slice_get xs place x x there)

-- what is found has a place
first_place : {X : Type 0} (test : X → Bool) (xs : List X) (x : X) → find test xs ≡ Some x
    → (prefix_len (λ y. not (test y)) xs < length xs) × (slice_get xs (prefix_len (λ y. not (test y)) xs) ≡ Some x)
first_place test [] x found = cc
first_place test (y ∷ ys) x found = at (test y) found (λ there. first_place test ys x there)
  where
    at : (b : Bool) → cond b (Some y) (find test ys) ≡ Some x
        → (find test ys ≡ Some x → (prefix_len (λ z. not (test z)) ys < length ys) × (slice_get ys (prefix_len (λ z. not (test z)) ys) ≡ Some x))
        → (cond (not b) (1 + prefix_len (λ z. not (test z)) ys) 0 < length (y ∷ ys))
        × (slice_get (y ∷ ys) (cond (not b) (1 + prefix_len (λ z. not (test z)) ys) 0) ≡ Some x)
    at true here later = (omega arith, here)
    at false here later =
        let rest = later here in
        let next : 1 + prefix_len (λ z. not (test z)) ys ≡ suc (prefix_len (λ z. not (test z)) ys) = omega arith in
        (omega (arith, rest.0), ap (slice_get (y ∷ ys)) next ∙ rest.1)

within_is : (n len : ℕ) → n < len → nat_lt n len ≡ true
within_is n len h = grind (arith, nat_tests)

pub place-of_found : {X : Type 0} (test : X → Bool) (xs : List X) (x : X) → find test xs ≡ Some x
    → (place : ℕ) × (position test xs ≡ Some place) × (slice_get xs place ≡ Some x)
place-of_found test xs x found =
    let n = prefix_len (λ y. not (test y)) xs in
    let at = first_place test xs x found in
    (n, ap (λ b. cond b (Some n) None) (within_is n (length xs) at.0), at.1)

-- ---- what was found

pub if_some : {X : Type 0} (P : X → Type 0) (found : Option X) (x : X) → found ≡ Some x → IfSome found P → P x
if_some P found x is holds = subst (λ o. IfSome o P) is holds

-- ---- what a test says of what was found

pub none_by_test : {X : Type 0} (found : Option X) (test : Bool) → test ≡ is_some found → test ≡ false → found ≡ None
none_by_test None test is none = refl
none_by_test (Some x) test is none = cc

pub none_by_other : {X : Type 0} (found : Option X) (test : Bool) → is_some found ≡ not test → test ≡ true → found ≡ None
none_by_other None test is none = refl
none_by_other (Some x) test is none = cc

pub some_by_test : {X : Type 0} (found : Option X) (test : Bool) → is_some found ≡ not test → test ≡ false → found ≡ None → ⊥
some_by_test None test is some none = cc
some_by_test (Some x) test is some none = cc
