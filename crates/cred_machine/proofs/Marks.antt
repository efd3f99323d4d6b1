-- Slots that are marked.
use Rattle.std.proofs.Common.{◌≡◌, ℕ, zero, suc, ◌+◌, ◌<◌, ◌≤◌, Bool, true, false, not, List, get_or, find, Some, None, refl, ap, arith, inl, inr, replicate}
use Rattle.std.specs.List.{range_with_len}
use Rattle.std.proofs.lemmas.Bool.{cases_lt}
use Rattle.cred_ids.specs.Limits.{SLOTS, slots}

find_first : (test : ℕ → Bool) (a n s : ℕ) → a ≤ s → s < a + n → test s ≡ true → ((k : ℕ) → a ≤ k → k < s → test k ≡ false)
    → find test (range_with_len a n) ≡ Some s
find_first test a zero s low high here before = absurd (omega arith)
find_first test a (suc n) s low high here before = elim (cases_lt a s) [
  | inl lt ↦ rw (before a (omega arith) lt) (find_first test (a + 1) n s (omega arith) (omega arith) here (λ k l h. before k (omega arith) h))
  | inr ge ↦ let same : a ≡ s = omega arith in rw (same, here) refl
]

find_none : (test : ℕ → Bool) (a n : ℕ) → ((k : ℕ) → a ≤ k → k < a + n → test k ≡ false) → find test (range_with_len a n) ≡ None
find_none test a zero each = refl
find_none test a (suc n) each = rw (each a (omega arith) (omega arith)) (find_none test (a + 1) n (λ k l h. each k (omega arith) (omega arith)))

-- the first slot without a mark
pub first_clear-is : (marks : List Bool) (s : ℕ) → s < SLOTS → get_or marks s false ≡ false → ((k : ℕ) → k < s → get_or marks k false ≡ true)
    → find (λ slot. not (get_or marks slot false)) slots ≡ Some s
unfolding slots
first_clear-is marks s within here before =
    find_first (λ slot. not (get_or marks slot false)) 0 SLOTS s (omega arith) within (ap not here) (λ k l h. ap not (before k h))

pub first_clear-none : (marks : List Bool) → ((k : ℕ) → k < SLOTS → get_or marks k false ≡ true) → find (λ slot. not (get_or marks slot false)) slots ≡ None
unfolding slots
first_clear-none marks each = find_none (λ slot. not (get_or marks slot false)) 0 SLOTS (λ k l h. ap not (each k h))

-- no slot is marked at first
pub unmarked : (count slot : ℕ) → get_or (replicate count false) slot false ≡ false
unmarked zero slot = refl
unmarked (suc count) zero = refl
unmarked (suc count) (suc slot) = unmarked count slot
