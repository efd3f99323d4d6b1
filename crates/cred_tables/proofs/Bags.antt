-- Lists of numbers that have the same numbers, each as often.
use Rattle.std.proofs.Common.{◌≡◌, ℕ, ◌+◌, ◌<◌, ◌==◌, Bool, cond, ◌||◌, List, [], ◌∷◌, find, Some, nat_lt, length, get_or, zero, suc, refl, sym, ap, ◌∙◌, arith}
use Rattle.std.specs.List.{list_any, count_by}
use Rattle.std.proofs.lemmas.Bool.{eq-eqb}
use Rattle.cred_slots.specs.Table.{IsSameBag}
use Rattle.cred_slots.proofs.Counting.{any-count, count-cons}

-- a test that one of two such lists passes, the other passes
pub any-bag : (test : ℕ → Bool) (xs ys : List ℕ) → IsSameBag xs ys → list_any test xs ≡ list_any test ys
any-bag test xs ys same = any-count test xs ∙ ap (λ (n : ℕ). nat_lt 0 n) (same.counts test) ∙ sym (any-count test ys)

-- ---- tests that answer alike

pub any-same : {X : Type 0} (p q : X → Bool) (xs : List X) → ((x : X) → p x ≡ q x) → list_any p xs ≡ list_any q xs
any-same p q [] same = refl
any-same p q (x ∷ xs) same = ap (λ b. b || list_any p xs) (same x) ∙ ap (λ b. q x || b) (any-same p q xs same)

pub find-same : {X : Type 0} (p q : X → Bool) (xs : List X) → ((x : X) → p x ≡ q x) → find p xs ≡ find q xs
find-same p q [] same = refl
find-same p q (x ∷ xs) same =
    ap (λ b. cond b (Some x) (find p xs)) (same x) ∙ ap (λ o. cond (q x) (Some x) o) (find-same p q xs same)

pub count-same : (p q : ℕ → Bool) (xs : List ℕ) → ((x : ℕ) → p x ≡ q x) → count_by p xs ≡ count_by q xs
count-same p q [] same = refl
count-same p q (x ∷ xs) same =
    count-cons p x xs ∙ ap (λ b. cond b 1 0 + count_by p xs) (same x) ∙ ap (λ n. cond (q x) 1 0 + n) (count-same p q xs same)
    ∙ sym (count-cons q x xs)

-- ---- one number more, and one less

pub bag-more : {n : ℕ} {xs xs' ys ys' : List ℕ} → IsSameBag xs ys → IsSameBag xs' (n ∷ xs) → IsSameBag ys' (n ∷ ys) → IsSameBag xs' ys'
bag-more {n = n} {xs = xs} {ys = ys} same one other = record {
  counts = λ test.
      let first = one.counts test ∙ count-cons test n xs in
      let second = other.counts test ∙ count-cons test n ys in
      omega (arith, same.counts test, first, second);
}

pub bag-less : {n : ℕ} {xs xs' ys ys' : List ℕ} → IsSameBag xs ys → IsSameBag xs (n ∷ xs') → IsSameBag ys (n ∷ ys') → IsSameBag xs' ys'
bag-less {n = n} {xs' = xs'} {ys' = ys'} same one other = record {
  counts = λ test.
      let first = one.counts test ∙ count-cons test n xs' in
      let second = other.counts test ∙ count-cons test n ys' in
      omega (arith, same.counts test, first, second);
}

-- one number in the place of another
pub bag-other : {new old : ℕ} {xs between xs' ys ys' : List ℕ} → IsSameBag xs ys → IsSameBag between (new ∷ xs) → IsSameBag between (old ∷ xs')
    → IsSameBag (old ∷ ys') (new ∷ ys) → IsSameBag xs' ys'
bag-other {new = new} {old = old} {xs = xs} {xs' = xs'} {ys = ys} {ys' = ys'} same adds drops other = record {
  counts = λ test.
      let more = adds.counts test ∙ count-cons test new xs in
      let less = drops.counts test ∙ count-cons test old xs' in
      let both = sym (count-cons test old ys') ∙ other.counts test ∙ count-cons test new ys in
      omega (arith, same.counts test, more, less, both);
}

-- ---- a number that is there

abbrev pub one_if : Bool → ℕ
one_if test = cond test 1 0

-- a number counts itself
pub counts_itself : (n : ℕ) → one_if (n == n) ≡ 1
counts_itself n = ap one_if (eq-eqb n n refl)

pub bag-has : {n : ℕ} {xs rest : List ℕ} → IsSameBag xs (n ∷ rest) → 0 < count_by (λ m. m == n) xs
bag-has {n = n} {rest = rest} same =
    let more = same.counts (λ m. m == n) ∙ count-cons (λ m. m == n) n rest in
    let one = counts_itself n in
    omega (arith, more, one)

pub bag-keeps : {n : ℕ} {xs more : List ℕ} (k : ℕ) → IsSameBag more (n ∷ xs) → 0 < count_by (λ m. m == k) xs → 0 < count_by (λ m. m == k) more
bag-keeps {n = n} {xs = xs} k same some =
    let all = same.counts (λ m. m == k) ∙ count-cons (λ m. m == k) n xs in
    omega (arith, all, some)

pub bag-at : {xs ys : List ℕ} (k : ℕ) → IsSameBag xs ys → 0 < count_by (λ m. m == k) ys → 0 < count_by (λ m. m == k) xs
bag-at k same some = let all = same.counts (λ m. m == k) in omega (arith, all, some)

-- a number at a place counts
pub count-at : (xs : List ℕ) (i d : ℕ) → i < length xs → 0 < count_by (λ m. m == get_or xs i d) xs
count-at [] i d lt = absurd (omega arith)
count-at (x ∷ xs) zero d lt =
    let more = count-cons (λ m. m == x) x xs in
    let one = counts_itself x in
    omega (arith, more, one)
count-at (x ∷ xs) (suc i) d lt =
    let more = count-cons (λ m. m == get_or xs i d) x xs in
    let rest = count-at xs i d (omega arith) in
    omega (arith, more, rest)
