-- Numbers that are put in order, and numbers that are left out.
use Rattle.std.proofs.Common.{◌≡◌, ◌≢◌, ◌==◌, ◌||◌, not, ℕ, suc, ◌<◌, ◌≤◌, List, [], ◌∷◌, length, Some, Bool, true, false, cond, nat_le, if◌then◌else◌, refl}
use Rattle.std.proofs.Common.{ap, ◌∙◌, arith}
use Rattle.std.specs.List.{All, AllPairs, filter, find, list_any}
use Rattle.std.proofs.lemmas.List.Elements.{All-cons, All-head, All-nil, All-tail, All-weaker}
use Rattle.std.proofs.lemmas.List.Kept.{AllPairs-cons}
use Rattle.std.proofs.lemmas.Map.Views.{any-filter_same}
use Rattle.std.proofs.lemmas.Bool.{leb-true, leb-false}
use Rattle.std.proofs.lemmas.Bool.Decides.{nat_tests}
use Rattle.cred_ids.specs.Ordered.{placed, in_order}

-- ---- what holds of each

All-placed : (P : ℕ → Type 0) (n : ℕ) (xs : List ℕ) → P n → All P xs → All P (placed n xs)
unfolding placed
All-placed P n [] here each = All-cons P n [] here each
All-placed P n (x ∷ xs) here each =
    elim (nat_le n x) as (λ b. All P (if b then n ∷ x ∷ xs else x ∷ placed n xs)) [
      | true ↦ All-cons P n (x ∷ xs) here each
      | false ↦ All-cons P x (placed n xs) (All-head P x xs each) (All-placed P n xs here (All-tail P x xs each))
    ]

pub All-in_order : (P : ℕ → Type 0) (xs : List ℕ) → All P xs → All P (in_order xs)
unfolding in_order
All-in_order P [] each = each
All-in_order P (x ∷ xs) each =
    All-placed P x (in_order xs) (All-head P x xs each) (All-in_order P xs (All-tail P x xs each))

or_swap : (a b c : Bool) → (a || (b || c)) ≡ (b || (a || c))
or_swap true true c = refl
or_swap true false c = refl
or_swap false b c = refl

any-placed : (p : ℕ → Bool) (n : ℕ) (xs : List ℕ) → list_any p (placed n xs) ≡ (p n || list_any p xs)
unfolding placed
any-placed p n [] = refl
any-placed p n (x ∷ xs) =
    elim (nat_le n x) as (λ b. list_any p (if b then n ∷ x ∷ xs else x ∷ placed n xs) ≡ (p n || (p x || list_any p xs))) [
      | true ↦ refl
      | false ↦ ap (λ b. p x || b) (any-placed p n xs) ∙ or_swap (p x) (p n) (list_any p xs)
    ]

-- the same numbers stand in the list that is put in order
pub any-in_order : (p : ℕ → Bool) (xs : List ℕ) → list_any p (in_order xs) ≡ list_any p xs
unfolding in_order
any-in_order p [] = refl
any-in_order p (x ∷ xs) = any-placed p x (in_order xs) ∙ ap (λ b. p x || b) (any-in_order p xs)

length-placed : (n : ℕ) (xs : List ℕ) → length (placed n xs) ≡ suc (length xs)
unfolding placed
length-placed n [] = refl
length-placed n (x ∷ xs) =
    elim (nat_le n x) as (λ b. length (if b then n ∷ x ∷ xs else x ∷ placed n xs) ≡ suc (suc (length xs))) [
      | true ↦ refl
      | false ↦ ap suc (length-placed n xs)
    ]

pub length-in_order : (xs : List ℕ) → length (in_order xs) ≡ length xs
unfolding in_order
length-in_order [] = refl
length-in_order (x ∷ xs) = length-placed x (in_order xs) ∙ ap suc (length-in_order xs)

-- ---- two of them

pub AllPairs-head : {X : Type 0} (R : X → X → Type 0) (x : X) (xs : List X) → AllPairs R (x ∷ xs) → All (R x) xs
AllPairs-head R x xs each k d lt = each 0 (suc k) d (omega arith) (omega arith)

pub AllPairs-tail : {X : Type 0} (R : X → X → Type 0) (x : X) (xs : List X) → AllPairs R (x ∷ xs) → AllPairs R xs
AllPairs-tail R x xs each i j d lt within = each (suc i) (suc j) d (omega arith) (omega arith)

abbrev pub Below : ℕ → ℕ → Type 0
Below a b = a < b

rising-placed : (n : ℕ) (xs : List ℕ) → AllPairs Below xs → All (λ x. n ≢ x) xs → AllPairs Below (placed n xs)
unfolding placed
rising-placed n [] up other = AllPairs-cons Below n [] (All-nil (Below n)) up
rising-placed n (x ∷ xs) up other =
    let later = AllPairs-head Below x xs up in
    let differ : n ≢ x = All-head (λ x. n ≢ x) x xs other in
    elim (nat_le n x) as (λ b. nat_le n x ≡ b → AllPairs Below (if b then n ∷ x ∷ xs else x ∷ placed n xs)) [
      | true ↦ λ is.
          let le : n ≤ x = leb-true n x is in
          let lt : n < x = omega (arith, differ) in
          AllPairs-cons Below n (x ∷ xs)
          (All-cons (Below n) x xs lt (All-weaker (Below x) (Below n) (λ y above. omega arith) xs later)) up
      | false ↦ λ is.
          let lt : x < n = leb-false n x is in
          AllPairs-cons Below x (placed n xs) (All-placed (Below x) n xs lt later)
          (rising-placed n xs (AllPairs-tail Below x xs up) (All-tail (λ x. n ≢ x) x xs other))
    ] refl

-- different numbers that are put in order rise
pub rising-in_order : (xs : List ℕ) → AllPairs (λ a b. a ≢ b) xs → AllPairs Below (in_order xs)
unfolding in_order
rising-in_order [] differ = λ i j d lt within. absurd (omega arith)
rising-in_order (x ∷ xs) differ =
    rising-placed x (in_order xs) (rising-in_order xs (AllPairs-tail (λ a b. a ≢ b) x xs differ))
    (All-in_order (λ y. x ≢ y) xs (AllPairs-head (λ a b. a ≢ b) x xs differ))

pub rising_differ : (xs : List ℕ) → AllPairs Below xs → AllPairs (λ a b. a ≢ b) xs
rising_differ xs up i j d lt within same = let below = up i j d lt within in omega arith

-- ---- what is left

-- what holds of each that passes the test
pub All-passed : {X : Type 0} (p : X → Bool) (P Q : X → Type 0) (xs : List X) → ((x : X) → p x ≡ true → P x → Q x) → All P xs
    → All Q (filter p xs)
All-passed p P Q [] holds each = All-nil Q
All-passed p P Q (x ∷ xs) holds each =
    let rest = All-passed p P Q xs holds (All-tail P x xs each) in
    elim (p x) as (λ b. p x ≡ b → All Q (cond b (x ∷ filter p xs) (filter p xs))) [
      | true ↦ λ is. All-cons Q x (filter p xs) (holds x is (All-head P x xs each)) rest
      | false ↦ λ is. rest
    ] refl

-- the first that is found is found among those that are left, if it is
pub find-filter : {X : Type 0} (p q : X → Bool) (xs : List X) (x : X) → find p xs ≡ Some x → q x ≡ true
    → find p (filter q xs) ≡ Some x
find-filter p q [] x is stays = is
find-filter p q (y ∷ ys) x is stays =
    elim (p y) as (λ b. p y ≡ b → cond b (Some y) (find p ys) ≡ Some x → find p (cond (q y) (y ∷ filter q ys) (filter q ys)) ≡ Some x) [
      | true ↦ λ test found.
          let same : y ≡ x = cc in
          let there : q y ≡ true = ap q same ∙ stays in
          rw there (rw test found)
      | false ↦ λ test found.
          elim (q y) as (λ b. find p (cond b (y ∷ filter q ys) (filter q ys)) ≡ Some x) [
            | true ↦ rw test (find-filter p q ys x found stays)
            | false ↦ find-filter p q ys x found stays
          ]
    ] refl is

-- another number stands where one is left out
pub any_without : (n left : ℕ) (xs : List ℕ) → n ≢ left
    → list_any (λ m. m == n) (filter (λ m. not (m == left)) xs) ≡ list_any (λ m. m == n) xs
any_without n left xs other =
    any-filter_same (λ m. m == n) (λ m. not (m == left)) true (λ m is. grind (arith, nat_tests)) xs
