-- Tasks that wait, kept in falling order: what is read from the end is what a reader of the rising
-- order reads from its beginning.
use Rattle.std.proofs.Common.{◌≡◌, ◌==◌, ◌||◌, not, ℕ, ◌+◌, ◌-◌, ◌<◌, List, [], ◌∷◌, ◌++◌, length, slice_get, get_or, reverse, Option, None, Some, Bool, true}
use Rattle.std.proofs.Common.{false, cond, refl, sym, ap, ◌∙◌, subst, append-nil, arith}
use Rattle.std.specs.List.{All, AllPairs, filter, list_any}
use Rattle.std.specs.List.Sorted.{IsPermutation}
use Rattle.std.specs.Option.{IsSome, option_eq, option_to_list}
use Rattle.std.proofs.lemmas.Bool.{eqb-true}
use Rattle.std.proofs.lemmas.Bool.Decides.{nat_tests}
use Rattle.std.proofs.lemmas.Grind.{reverse_onto}
use Rattle.std.proofs.lemmas.List.{get_or-reverse, length-reverse, reverse-append}
use Rattle.std.proofs.lemmas.List.Elements.{All-head, All-tail, filter-append}
use Rattle.std.proofs.lemmas.List.Sorted.{IsPermutation-append_left, IsPermutation-reverse, IsPermutation-sym, IsPermutation-trans, list_any-IsPermutation}
use Rattle.std.proofs.lemmas.Option.{slice_get-get_or}
use Rattle.cred_model.proofs.Rising.{AllPairs-head, AllPairs-tail, Below}

pub any-reverse : {X : Type 0} (p : X → Bool) (xs : List X) → list_any p (reverse xs) ≡ list_any p xs
any-reverse p xs = sym (list_any-IsPermutation p xs (reverse xs) (IsPermutation-reverse xs))

pub filter-reverse : {X : Type 0} (p : X → Bool) (xs : List X) → filter p (reverse xs) ≡ reverse (filter p xs)
filter-reverse p [] = refl
filter-reverse p (x ∷ xs) =
    ap (filter p) (reverse_onto xs x [])
    ∙ filter-append p (reverse xs) (x ∷ [])
    ∙ ap (λ ys. ys ++ filter p (x ∷ [])) (filter-reverse p xs)
    ∙ elim (p x) as (λ b. reverse (filter p xs) ++ cond b (x ∷ []) [] ≡ reverse (cond b (x ∷ filter p xs) (filter p xs))) [
      | true ↦ sym (reverse_onto (filter p xs) x [])
      | false ↦ append-nil (reverse (filter p xs))
    ]

-- the least is the last, and the greatest the first
pub least_last : (xs : List ℕ) → slice_get (reverse xs) 0 ≡ slice_get xs (length xs - 1)
least_last [] = refl
least_last (x ∷ xs) =
    let all = x ∷ xs in
    let last : length all - 1 - 0 ≡ length all - 1 = omega arith in
    slice_get-get_or (reverse all) 0 x (omega (arith, length-reverse all))
    ∙ ap (λ (n : ℕ). Some n) (get_or-reverse all 0 x (omega arith) ∙ ap (λ i. get_or all i x) last)
    ∙ sym (slice_get-get_or all (length all - 1) x (omega arith))

pub greatest_first : (xs : List ℕ) → slice_get (reverse xs) (length xs - 1) ≡ slice_get xs 0
greatest_first [] = refl
greatest_first (x ∷ xs) =
    let all = x ∷ xs in
    let first : length all - 1 - (length all - 1) ≡ 0 = omega arith in
    slice_get-get_or (reverse all) (length all - 1) x (omega (arith, length-reverse all))
    ∙ ap (λ (n : ℕ). Some n) (get_or-reverse all (length all - 1) x (omega arith) ∙ ap (λ i. get_or all i x) first)

-- one more, put in order
pub joined_either : (xs : List ℕ) (x : ℕ) (ys : List ℕ) → IsPermutation (xs ++ x ∷ []) ys → IsPermutation (reverse xs ++ x ∷ []) ys
joined_either xs x ys is =
    IsPermutation-trans (reverse xs ++ x ∷ []) (xs ++ x ∷ []) ys
    (IsPermutation-append_left (x ∷ []) (reverse xs) xs (IsPermutation-sym xs (reverse xs) (IsPermutation-reverse xs))) is

-- what a task that isn't among them leaves
pub stays : (task : ℕ) (xs : List ℕ) → list_any (λ n. n == task) xs ≡ false → filter (λ n. not (n == task)) xs ≡ xs
stays task [] none = refl
stays task (n ∷ ns) none =
    elim (n == task) as
    (λ b. ((b || list_any (λ m. m == task) ns) ≡ false) → cond (not b) (n ∷ filter (λ m. not (m == task)) ns) (filter (λ m. not (m == task)) ns) ≡ n ∷ ns) [
      | true ↦ λ is. cc
      | false ↦ λ is. ap (λ ms. n ∷ ms) (stays task ns is)
    ] none

-- nor one that they are all above
above_stays : (task : ℕ) (xs : List ℕ) → All (Below task) xs → filter (λ n. not (n == task)) xs ≡ xs
above_stays task [] above = refl
above_stays task (n ∷ ns) above =
    let over = All-head (Below task) n ns above in
    let other : (n == task) ≡ false = grind (arith, nat_tests) in
    ap (λ b. cond (not b) (n ∷ filter (λ m. not (m == task)) ns) (filter (λ m. not (m == task)) ns)) other
    ∙ ap (λ ms. n ∷ ms) (above_stays task ns (All-tail (Below task) n ns above))

-- the first of a rising list, left out
first_leaves : (task : ℕ) (xs : List ℕ) → AllPairs Below (task ∷ xs) → filter (λ n. not (n == task)) (task ∷ xs) ≡ xs
first_leaves task xs up =
    let self : (task == task) ≡ true = grind (arith, nat_tests) in
    ap (λ b. cond (not b) (task ∷ filter (λ n. not (n == task)) xs) (filter (λ n. not (n == task)) xs)) self
    ∙ above_stays task xs (AllPairs-head Below task xs up)

-- one of a rising list, left out
pub one_fewer : (task : ℕ) (xs : List ℕ) → AllPairs Below xs → list_any (λ n. n == task) xs ≡ true
    → length (filter (λ n. not (n == task)) xs) + 1 ≡ length xs
one_fewer task [] up among = cc
one_fewer task (n ∷ ns) up among =
    let rest = filter (λ m. not (m == task)) ns in
    elim (n == task) as (λ b. (n == task) ≡ b → (b || list_any (λ m. m == task) ns) ≡ true → length (cond (not b) (n ∷ rest) rest) + 1 ≡ length (n ∷ ns)) [
      | true ↦ λ is _.
          let same : n ≡ task = eqb-true n task is in
          let above = AllPairs-head Below n ns up in
          let stay : rest ≡ ns = above_stays task ns (subst (λ m. All (Below m) ns) same above) in
          let long = ap (λ (ms : List ℕ). length ms) stay in
          omega (arith, long)
      | false ↦ λ _ later.
          let fewer = one_fewer task ns (AllPairs-tail Below n ns up) later in
          omega (arith, fewer)
    ] refl among

-- what is left when the least is taken off the end of a falling list
taken_leaves : (task last : ℕ) (before after : List ℕ) → before ≡ after ++ last ∷ [] → AllPairs Below (reverse before)
    → slice_get (reverse before) 0 ≡ Some task → reverse after ≡ filter (λ n. not (n == task)) (reverse before)
taken_leaves task last before after is up least =
    let there : reverse before ≡ last ∷ reverse after = ap reverse is ∙ reverse-append after (last ∷ []) in
    let same : last ≡ task = some_is (sym (ap (λ xs. slice_get xs 0) there) ∙ least) in
    let first : reverse before ≡ task ∷ reverse after = there ∙ ap (λ n. n ∷ reverse after) same in
    sym (ap (filter (λ n. not (n == task))) first ∙ first_leaves task (reverse after) (subst (AllPairs Below) first up))
  where
    some_is : {a b : ℕ} → Some a ≡ Some b → a ≡ b
    some_is is = cc

-- what the test for the least says
least_is : (task : ℕ) (least : Option ℕ) → option_eq (λ (a b : ℕ). a == b) least (Some task) ≡ true → least ≡ Some task
least_is task None is = cc
least_is task (Some n) is = ap (λ (m : ℕ). Some m) (eqb-true n task is)

pub least_taken : (task : ℕ) (least taken : Option ℕ) (before after : List ℕ) (len : ℕ) → len ≡ length before
    → before ≡ after ++ option_to_list taken → (0 < len → IsSome taken) → AllPairs Below (reverse before)
    → least ≡ slice_get (reverse before) 0 → option_eq (λ (a b : ℕ). a == b) least (Some task) ≡ true
    → reverse after ≡ filter (λ n. not (n == task)) (reverse before)
least_taken task least (Some last) before after len long is some up read test =
    taken_leaves task last before after is up (sym read ∙ least_is task least test)
least_taken task least None [] after len long is some up read test = let there = sym read ∙ least_is task least test in cc
least_taken task least None (n ∷ ns) after len long is some up read test = let none = some (omega (arith, long)) in cc
