-- How often a test passes in lists that are joined end to end, one for each lane.
use Rattle.std.proofs.Common.{◌≡◌, ◌≢◌, ℕ, zero, suc, ◌+◌, ◌<◌, ◌≤◌, cond, Bool, true, false, List, [], ◌∷◌, ◌++◌, ◌⊎◌, inl, inr, refl, ap, ◌∙◌, arith}
use Rattle.std.specs.List.{count_by, flat_map, range_with_len, sum_by}
use Rattle.std.proofs.lemmas.Bool.{cases_eq, cases_lt}
use Rattle.std.proofs.lemmas.List.Sums.{sum_by-append, sum_by-cons}
use Rattle.cred_words.specs.Lists.{Has}

abbrev pub one_if : Bool → ℕ
one_if b = cond b 1 0

pub count-append : {A : Type 0} (test : A → Bool) (xs ys : List A) → count_by test (xs ++ ys) ≡ count_by test xs + count_by test ys
count-append test xs ys = sum_by-append (λ x. cond (test x) 1 0) xs ys

pub count-cons : {A : Type 0} (test : A → Bool) (x : A) (xs : List A) → count_by test (x ∷ xs) ≡ one_if (test x) + count_by test xs
count-cons test x xs = sum_by-cons (λ x. cond (test x) 1 0) x xs

pub count-joined : {A : Type 0} (test : A → Bool) (f : ℕ → List A) (ns : List ℕ)
    → count_by test (flat_map f ns) ≡ sum_by (λ n. count_by test (f n)) ns
count-joined test f [] = refl
count-joined test f (n ∷ ns) =
    let both = count-append test (f n) (flat_map f ns) in
    let rest = count-joined test f ns in
    let all = sum_by-cons (λ n. count_by test (f n)) n ns in
    omega (arith, both, rest, all)

-- ---- sums over lanes

pub sum-same : (f g : ℕ → ℕ) (first n : ℕ) → ((k : ℕ) → first ≤ k → f k ≡ g k)
    → sum_by f (range_with_len first n) ≡ sum_by g (range_with_len first n)
sum-same f g first zero same = refl
sum-same f g first (suc n) same =
    let here = same first (omega arith) in
    let rest = sum-same f g (first + 1) n (λ k le. same k (omega (arith, le))) in
    let one = sum_by-cons f first (range_with_len (first + 1) n) in
    let other = sum_by-cons g first (range_with_len (first + 1) n) in
    omega (arith, here, rest, one, other)

-- that agree everywhere but at one place
pub sum-but_one : (f g : ℕ → ℕ) (first n place : ℕ) → first ≤ place → place < first + n → ((k : ℕ) → k ≢ place → f k ≡ g k)
    → sum_by f (range_with_len first n) + g place ≡ sum_by g (range_with_len first n) + f place
sum-but_one f g first zero place from within same = absurd (omega (arith, from, within))
sum-but_one f g first (suc n) place from within same =
    let one = sum_by-cons f first (range_with_len (first + 1) n) in
    let other = sum_by-cons g first (range_with_len (first + 1) n) in
    elim (cases_eq first place) [
      | inl here ↦
          let rest = sum-same f g (first + 1) n (λ k le. same k (λ e. omega (arith, le, e, here))) in
          let fs = ap f here in
          let gs = ap g here in
          omega (arith, rest, fs, gs, one, other)
      | inr later ↦
          let rest = sum-but_one f g (first + 1) n place (omega (arith, from, later)) (omega (arith, within)) same in
          let here = same first later in
          omega (arith, rest, here, one, other)
    ]

-- a place that has something
pub some_place : (f : ℕ → ℕ) (first n : ℕ) → 0 < sum_by f (range_with_len first n) → (k : ℕ) × (0 < f k)
some_place f first zero some = absurd (omega (arith, some))
some_place f first (suc n) some =
    let all = sum_by-cons f first (range_with_len (first + 1) n) in
    elim (cases_lt 0 (f first)) [
      | inl here ↦ (first, here)
      | inr none ↦ some_place f (first + 1) n (omega (arith, some, none, all))
    ]

-- ---- what passes

-- an element of a list that passes a test
pub record Passes {A : Type 0} (test : A → Bool) (xs : List A) : Type 0 where
  pub it : A
  pub is : Has xs it
  pub passes : test it ≡ true

pub some_passes : {A : Type 0} (test : A → Bool) (xs : List A) → 0 < count_by test xs → Passes test xs
some_passes test [] some = absurd (omega (arith, some))
some_passes test (x ∷ xs) some = by (test x) refl (some_passes test xs)
  where
    by : (b : Bool) → test x ≡ b → (0 < count_by test xs → Passes test xs) → Passes test (x ∷ xs)
    by true is again = record { it = x; is = inl refl; passes = is }
    by false is again =
        let all = count-cons test x xs in
        let none : one_if (test x) ≡ 0 = ap one_if is in
        let rest = again (omega (arith, some, all, none)) in
        record { it = rest.it; is = inr rest.is; passes = rest.passes }

pub has_passes : {A : Type 0} (test : A → Bool) (xs : List A) (x : A) → Has xs x → test x ≡ true → 0 < count_by test xs
has_passes test [] x has is = absurd has
has_passes test (y ∷ ys) x (inl same) is =
    let all = count-cons test y ys in
    let one : one_if (test y) ≡ 1 = ap (λ z. one_if (test z)) same ∙ ap one_if is in
    omega (arith, all, one)
has_passes test (y ∷ ys) x (inr later) is =
    let all = count-cons test y ys in
    let rest = has_passes test ys x later is in
    omega (arith, all, rest)

pub has-append : {A : Type 0} (xs ys : List A) (x : A) → Has (xs ++ ys) x → Has xs x ⊎ Has ys x
has-append [] ys x has = inr has
has-append (z ∷ xs) ys x (inl same) = inl (inl same)
has-append (z ∷ xs) ys x (inr later) = elim (has-append xs ys x later) [
  | inl first ↦ inl (inr first)
  | inr second ↦ inr second
]
