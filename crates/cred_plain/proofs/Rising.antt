-- What is stored in the order of its numbers.
use Rattle.std.proofs.Common.{◌≡◌, ◌≢◌, ℕ, suc, ◌+◌, ◌-◌, ◌<◌, ◌≤◌, ◌==◌, Bool, true, false, ltb, List, [], ◌∷◌, ◌++◌, length, find, get_or, Some, None, refl}
use Rattle.std.proofs.Common.{ap, arith, inl, inr}
use Rattle.std.specs.List.{filter}
use Rattle.std.specs.List.Sorted.{IsNonDecreasingBy, IsPartitionPoint}
use Rattle.std.proofs.lemmas.Bool.{cases_lt, ltb-true, ltb-false}
use Rattle.std.proofs.lemmas.Bool.Decides.{nat_tests}
use Rattle.std.proofs.lemmas.List.{get_or_default}
use Rattle.std.proofs.lemmas.List.Elements.{All-filter, All-push, All-weaker}
use Rattle.std.proofs.lemmas.List.Kept.{IsNonDecreasingBy-filter}
use Rattle.std.proofs.lemmas.List.Sorted.{IsNonDecreasingBy-push}
use Rattle.cred_model.proofs.Places.{find-first}
use Rattle.cred_plain.specs.Creds.{StoredCred, IsStored}

-- none is found of a list in which none passes
find-none : {X : Type 0} (test : X → Bool) (xs : List X) → ((k : ℕ) (d : X) → k < length xs → test (get_or xs k d) ≡ false) → find test xs ≡ None
find-none test [] each = refl
find-none test (x ∷ xs) each = rw (each 0 x (omega arith)) (find-none test xs (λ k d h. each (suc k) d (omega arith)))

pub tests_below : (m n : ℕ) → m < n → (m == n) ≡ false
tests_below m n lt = grind (arith, nat_tests)

tests_above : (m n : ℕ) → n < m → (m == n) ≡ false
tests_above m n lt = grind (arith, nat_tests)

pub tests_same : (m n : ℕ) → m ≡ n → (m == n) ≡ true
tests_same m n is = grind (arith, nat_tests)

-- Where the numbers below n end, there is the one of n, if there is one.
module _ (stored : List StoredCred) (n i : ℕ) (rising : IsNonDecreasingBy (λ (s : StoredCred). s.number) stored)
    (point : IsPartitionPoint (λ (s : StoredCred). ltb s.number n ≡ true) (λ (s : StoredCred). ltb s.number n ≡ false) stored i) where
  below : (k : ℕ) (d : StoredCred) → k < i → (get_or stored k d).number < n
  below k d h = ltb-true _ n (point.0 k d (omega arith) h)

  pub none-past : length stored ≤ i → find (λ (s : StoredCred). s.number == n) stored ≡ None
  none-past past = find-none (λ (s : StoredCred). s.number == n) stored (λ k d h. tests_below _ n (below k d (omega arith)))

  pub found-there : (d : StoredCred) → i < length stored → (get_or stored i d).number ≡ n
      → find (λ (s : StoredCred). s.number == n) stored ≡ Some (get_or stored i d)
  found-there d within is =
      find-first (λ (s : StoredCred). s.number == n) stored i d within (tests_same _ n is) (λ k h. tests_below _ n (below k d h))

  at_least : (k : ℕ) (d : StoredCred) → i ≤ k → k < length stored → n ≤ (get_or stored k d).number
  at_least k d from h = let least = ltb-false _ n (point.1 k d from h) in omega (arith, least)

  pub none-there : (d : StoredCred) → i < length stored → (get_or stored i d).number ≢ n
      → find (λ (s : StoredCred). s.number == n) stored ≡ None
  none-there d within other =
      find-none (λ (s : StoredCred). s.number == n) stored (λ k e h. elim (cases_lt k i) [
        | inl lt ↦ tests_below _ n (below k e lt)
        | inr ge ↦ tests_above _ n (above k e ge h)
      ])
    where
      above : (k : ℕ) (e : StoredCred) → i ≤ k → k < length stored → n < (get_or stored k e).number
      above k e from h =
          let first = at_least i d (omega arith) within in
          let later = rising i k e from h in
          let same : (get_or stored i e).number ≡ (get_or stored i d).number = ap (λ (s : StoredCred). s.number) (get_or_default stored i e d within) in
          elim (cases_lt n (get_or stored i d).number) [
            | inl lt ↦ omega (arith, lt, later, same)
            | inr ge ↦ let equal : (get_or stored i d).number ≡ n = omega (arith, first, ge) in absurd (other equal)
          ]

-- one more is stored, under the next number
pub stores : (stored : List StoredCred) (v : StoredCred) (count : ℕ) → IsStored stored count → v.number ≡ count → IsStored (stored ++ v ∷ []) (count + 1)
stores stored v count is next = record {
  rising =
      IsNonDecreasingBy-push (λ (s : StoredCred). s.number) stored v is.rising
      (λ d some. let last = is.sealed (length stored - 1) d (omega arith) in omega (arith, last, next));
  sealed = All-push (λ (s : StoredCred). s.number < count + 1) stored v
      (All-weaker (λ (s : StoredCred). s.number < count) (λ (s : StoredCred). s.number < count + 1) (λ s lt. omega arith) stored is.sealed)
      (omega (arith, next));
}

-- some of what is stored
pub stores_less : (keep : StoredCred → Bool) (stored : List StoredCred) (count : ℕ) → IsStored stored count → IsStored (filter keep stored) count
stores_less keep stored count is = record {
  rising = IsNonDecreasingBy-filter (λ (s : StoredCred). s.number) keep stored is.rising;
  sealed = All-filter keep (λ (s : StoredCred). s.number < count) stored is.sealed;
}
