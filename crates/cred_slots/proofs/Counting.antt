-- How often a test passes in what rows count.
use Rattle.std.proofs.Common.{◌≡◌, ◌≢◌, ℕ, zero, suc, ◌+◌, ◌*◌, ◌<◌, ◌≤◌, ◌||◌, Bool, true, false, cond, List, [], ◌∷◌, ◌++◌, length, refl, sym, inl, inr}
use Rattle.std.proofs.Common.{arith, nat_lt}
use Rattle.std.proofs.Common.{slice_set, replicate}
use Rattle.std.specs.List.{count_by, sum_by, list_any}
use Rattle.std.proofs.lemmas.List.Sums.{sum_by-cons, sum_by-append, sum_by-set, get_or-le-sum_by}
use Rattle.std.proofs.lemmas.List.Folds.{sum_by-replicate}
use Rattle.std.proofs.lemmas.Bool.{cases_lt}
use Rattle.std.proofs.lemmas.Bool.Decides.{nat_tests}
use Rattle.cred_slots.specs.declared.row.Row.{Row}
use Rattle.cred_slots.specs.Table.{IsSameBag}
use Rattle.cred_slots.specs.Rows.{row_at, repeated}

pub count-cons : (test : ℕ → Bool) (x : ℕ) (xs : List ℕ) → count_by test (x ∷ xs) ≡ cond (test x) 1 0 + count_by test xs
count-cons test x xs = sum_by-cons (λ n. cond (test n) 1 0) x xs

pub count-append : (test : ℕ → Bool) (xs ys : List ℕ) → count_by test (xs ++ ys) ≡ count_by test xs + count_by test ys
count-append test xs ys = sum_by-append (λ n. cond (test n) 1 0) xs ys

pub count-all : (xs : List ℕ) → count_by (λ _. true) xs ≡ length xs
count-all [] = refl
count-all (x ∷ xs) = omega (arith, count-cons (λ _. true) x xs, count-all xs)

any_step : (b r : Bool) (n : ℕ) → r ≡ nat_lt 0 n → (b || r) ≡ nat_lt 0 (cond b 1 0 + n)
any_step true r n e = grind (arith, nat_tests)
any_step false r n e = grind (arith, nat_tests)

-- a number passes exactly where the count isn't 0
pub any-count : (test : ℕ → Bool) (xs : List ℕ) → list_any test xs ≡ nat_lt 0 (count_by test xs)
any-count test [] = refl
any-count test (x ∷ xs) = rw (count-cons test x xs) (any_step (test x) (list_any test xs) (count_by test xs) (any-count test xs))

-- what a row adds to a count
abbrev pub weight : (Row → ℕ) → (ℕ → Bool) → Row → ℕ
weight count test row = cond (test row.number) (count row) 0

times_one : (b : Bool) (n : ℕ) → n * cond b 1 0 ≡ cond b n 0
times_one true n = omega arith
times_one false n = omega arith

pub count-repeated : (count : Row → ℕ) (test : ℕ → Bool) (rows : List Row) → count_by test (repeated count rows) ≡ sum_by (weight count test) rows
count-repeated count test [] = refl
count-repeated count test (row ∷ rows) =
    rw (
      count-append test (replicate (count row) row.number) (repeated count rows),
      sum_by-replicate (λ n. cond (test n) 1 0) (count row) row.number,
      count-repeated count test rows,
      times_one (test row.number) (count row),
    )
    (sym (sum_by-cons (weight count test) row rows))

pub count-repeated-set : (count : Row → ℕ) (test : ℕ → Bool) (rows : List Row) (slot : ℕ) (row : Row) → slot < length rows
    → count_by test (repeated count (slice_set rows slot row)) + weight count test (row_at rows slot)
    ≡ count_by test (repeated count rows) + weight count test row
count-repeated-set count test rows slot row within =
    rw (count-repeated count test (slice_set rows slot row), count-repeated count test rows)
    (sum_by-set (weight count test) rows slot row _ within)

pub length-repeated-set : (count : Row → ℕ) (rows : List Row) (slot : ℕ) (row : Row) → slot < length rows
    → length (repeated count (slice_set rows slot row)) + count (row_at rows slot) ≡ length (repeated count rows) + count row
length-repeated-set count rows slot row within =
    omega
    (arith, count-repeated-set count (λ _. true) rows slot row within, count-all (repeated count (slice_set rows slot row)), count-all (repeated count rows))

pub count-le-length : (count : Row → ℕ) (rows : List Row) (slot : ℕ) → slot < length rows → count (row_at rows slot) ≤ length (repeated count rows)
count-le-length count rows slot within =
    omega
    (arith, get_or-le-sum_by (weight count (λ _. true)) rows slot (row_at [] 0) within, count-repeated count (λ _. true) rows, count-all (repeated count rows))

pub sum_zero : (f : Row → ℕ) (rows : List Row) → ((i : ℕ) → i < length rows → f (row_at rows i) ≡ 0) → sum_by f rows ≡ 0
sum_zero f [] each = refl
sum_zero f (row ∷ rows) each =
    omega (arith, sum_by-cons f row rows, each 0 (omega arith), sum_zero f rows (λ i h. each (suc i) (omega arith)))

-- where all other rows add nothing
pub sum_only : (f : Row → ℕ) (rows : List Row) (slot : ℕ) → slot < length rows → ((i : ℕ) → i < length rows → i ≢ slot → f (row_at rows i) ≡ 0)
    → sum_by f rows ≡ f (row_at rows slot)
sum_only f [] slot within others = absurd (omega arith)
sum_only f (row ∷ rows) zero within others =
    omega (arith, sum_by-cons f row rows, sum_zero f rows (λ i h. others (suc i) (omega arith) (omega arith)))
sum_only f (row ∷ rows) (suc slot) within others =
    omega (
      arith,
      sum_by-cons f row rows,
      others 0 (omega arith) (omega arith),
      sum_only f rows slot (omega arith)
          (λ i h ne. others (suc i) (omega arith) (omega arith)),
    )

-- some row adds something
pub sum_some : (f : Row → ℕ) (rows : List Row) → 0 < sum_by f rows → (i : ℕ) × (i < length rows) × (0 < f (row_at rows i))
sum_some f [] some = absurd (omega arith)
sum_some f (row ∷ rows) some = elim (cases_lt 0 (f row)) [
  | inl lt ↦ (0, omega arith, lt)
  | inr ge ↦
      let rest = sum_some f rows (omega (arith, sum_by-cons f row rows)) in
      (suc rest.0, omega arith, rest.2)
]

pub bag_length : (xs ys : List ℕ) → IsSameBag xs ys → length xs ≡ length ys
bag_length xs ys e = omega (arith, e.counts (λ _. true), count-all xs, count-all ys)
