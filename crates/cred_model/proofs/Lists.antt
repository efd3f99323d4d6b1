-- Elements of lists, and what a search or a look-up finds.
use Rattle.std.proofs.Common.{◌≡◌, ◌≢◌, ◌==◌, ◌||◌, inl, inr, ℕ, zero, suc, ◌+◌, ◌<◌, List, [], ◌∷◌, ◌++◌, length, map, get_or, slice_get, Option, Some, None}
use Rattle.std.proofs.Common.{Bool, true, false, cond, refl, sym, ap, ◌∙◌, subst, arith}
use Rattle.std.specs.List.{All, AllPairs, find, flat_map, list_any, position, remove}
use Rattle.std.specs.Option.{IfSome, option_and_then, option_map}
use Rattle.std.proofs.lemmas.List.{get_or_append_left, get_or-append-add, get_or-map, length-append, length-map}
use Rattle.std.proofs.lemmas.List.Edits.{get_or-remove_below, get_or-remove_above, length-remove}
use Rattle.std.proofs.lemmas.List.Elements.{All-append, All-map, All-weaker, All-take, All-drop, All-head, All-tail, All-cons, All-nil}
use Rattle.std.proofs.lemmas.List.Quantifiers.{position-Some}
use Rattle.std.proofs.lemmas.Option.{get_or_from_slice_get, slice_get-get_or, slice_get_within}
use Rattle.std.proofs.lemmas.Bool.{cases_lt}
use Rattle.std.proofs.lemmas.Bool.Decides.{nat_tests}

pub All-left : {X : Type 0} (P : X → Type 0) (xs ys : List X) → All P (xs ++ ys) → All P xs
All-left P xs ys each k d lt = subst P (get_or_append_left xs ys d k lt) (each k d (omega (arith, length-append xs ys)))

pub All-right : {X : Type 0} (P : X → Type 0) (xs ys : List X) → All P (xs ++ ys) → All P ys
All-right P xs ys each k d lt =
    subst P (get_or-append-add xs ys k d) (each (length xs + k) d (omega (arith, length-append xs ys)))

pub All-unmap : {X Y : Type 0} (P : Y → Type 0) (f : X → Y) (xs : List X) → All P (map f xs) → All (λ x. P (f x)) xs
All-unmap P f xs each k d lt = subst P (get_or-map f xs k d (f d) lt) (each k (f d) (omega (arith, length-map xs f)))

pub All-remove : {X : Type 0} (P : X → Type 0) (xs : List X) (n : ℕ) → All P xs → All P (remove xs n)
All-remove P xs n each = All-append P _ _ (All-take P n xs each) (All-drop P (suc n) xs each)

-- what a change of the elements keeps
pub All-kept : {X : Type 0} (P : X → Type 0) (f : X → X) (xs : List X) → ((x : X) → P x → P (f x)) → All P xs → All P (map f xs)
All-kept P f xs keeps each = All-map P f xs (All-weaker P (λ x. P (f x)) keeps xs each)

pub All-at : {X : Type 0} (P : X → Type 0) (xs : List X) (n : ℕ) (x : X) → slice_get xs n ≡ Some x → All P xs → P x
All-at P xs n x is each = subst P (get_or_from_slice_get xs n x x is) (each n x (slice_get_within xs n x is))

-- what a test says of the element at a place
pub at_place : {X : Type 0} (p : X → Bool) (xs : List X) (n : ℕ) (x : X) → slice_get xs n ≡ Some x → p (get_or xs n x) ≡ true
    → p x ≡ true
at_place p xs n x is test = sym (ap p (get_or_from_slice_get xs n x x is)) ∙ test

-- ---- a test that no element passes

pub or_left : (a b : Bool) → (a || b) ≡ false → a ≡ false
or_left true b is = cc
or_left false b is = refl

pub or_right : (a b : Bool) → (a || b) ≡ false → b ≡ false
or_right true b is = cc
or_right false b is = is

pub none_passes : {X : Type 0} (p : X → Bool) (xs : List X) → list_any p xs ≡ false → All (λ x. p x ≡ false) xs
none_passes p [] is = All-nil (λ x. p x ≡ false)
none_passes p (x ∷ xs) is =
    All-cons (λ x. p x ≡ false) x xs (or_left (p x) (list_any p xs) is)
    (none_passes p xs (or_right (p x) (list_any p xs) is))

-- ---- the first element that passes a test

found-at : {X : Type 0} (P : X → Type 0) (p : X → Bool) (xs : List X) (x y : X) (b : Bool) → p y ≡ b
    → (find p xs ≡ Some x → P x × (p x ≡ true)) → cond b (Some y) (find p xs) ≡ Some x → P y → P x × (p x ≡ true)
found-at P p xs x y true test later is holds = let same : y ≡ x = cc in (subst P same holds, ap p (sym same) ∙ test)
found-at P p xs x y false test later is holds = later is

pub found : {X : Type 0} (P : X → Type 0) (p : X → Bool) (xs : List X) (x : X) → find p xs ≡ Some x → All P xs
    → P x × (p x ≡ true)
found P p [] x is each = cc
found P p (y ∷ ys) x is each =
    found-at P p ys x y (p y) refl (λ later. found P p ys x later (All-tail P y ys each)) is (All-head P y ys each)

none-at : {X : Type 0} (p : X → Bool) (xs : List X) (y : X) (b : Bool) → p y ≡ b
    → (find p xs ≡ None → All (λ x. p x ≡ false) xs) → cond b (Some y) (find p xs) ≡ None → All (λ x. p x ≡ false) (y ∷ xs)
none-at p xs y true test later is = cc
none-at p xs y false test later is = All-cons (λ x. p x ≡ false) y xs test (later is)

pub found_none : {X : Type 0} (p : X → Bool) (xs : List X) → find p xs ≡ None → All (λ x. p x ≡ false) xs
found_none p [] is = All-nil (λ x. p x ≡ false)
found_none p (y ∷ ys) is = none-at p ys y (p y) refl (λ later. found_none p ys later) is

pub none_found : {X : Type 0} (p : X → Bool) (xs : List X) → All (λ x. p x ≡ false) xs → find p xs ≡ None
none_found p [] each = refl
none_found p (y ∷ ys) each =
    ap (λ b. cond b (Some y) (find p ys)) (All-head (λ x. p x ≡ false) y ys each)
    ∙ none_found p ys (All-tail (λ x. p x ≡ false) y ys each)

-- ---- two elements of a list

pub AllPairs-map : {X Y : Type 0} (R : Y → Y → Type 0) (f : X → Y) (xs : List X) → AllPairs (λ x y. R (f x) (f y)) xs
    → AllPairs R (map f xs)
AllPairs-map R f [] each i j d lt within = absurd (omega arith)
AllPairs-map R f (x ∷ xs) each i j d lt within =
    let all = x ∷ xs in
    let long : j < length all = omega (arith, length-map all f) in
    let earlier : i < length all = omega arith in
    subst (λ y. R y (get_or (map f all) j d)) (sym (get_or-map f all i x d earlier))
    (subst (R (f (get_or all i x))) (sym (get_or-map f all j x d long)) (each i j x lt long))

pub AllPairs-unmap : {X Y : Type 0} (R : Y → Y → Type 0) (f : X → Y) (xs : List X) → AllPairs R (map f xs)
    → AllPairs (λ x y. R (f x) (f y)) xs
AllPairs-unmap R f xs each i j d lt within =
    let long : j < length (map f xs) = omega (arith, length-map xs f) in
    let earlier : i < length xs = omega arith in
    subst (λ x. R x (f (get_or xs j d))) (get_or-map f xs i d (f d) earlier)
    (subst (R (get_or (map f xs) i (f d))) (get_or-map f xs j d (f d) within) (each i j (f d) lt long))

pub AllPairs-weaker : {X : Type 0} (R Q : X → X → Type 0) (xs : List X) → ((x y : X) → R x y → Q x y) → AllPairs R xs
    → AllPairs Q xs
AllPairs-weaker R Q xs weaker each i j d lt within = weaker (get_or xs i d) (get_or xs j d) (each i j d lt within)

-- a change of the elements that leaves what is seen of them
pub map_same : {X Y : Type 0} (f : X → Y) (g : X → X) (xs : List X) → ((x : X) → f (g x) ≡ f x) → map f (map g xs) ≡ map f xs
map_same f g [] same = refl
map_same f g (x ∷ xs) same = ap (λ y. y ∷ map f (map g xs)) (same x) ∙ ap (λ ys. f x ∷ ys) (map_same f g xs same)

-- ---- elements that have each a number of its own

abbrev pub Differ : {X : Type 0} → (X → ℕ) → X → X → Type 0
Differ f x y = f x ≢ f y

-- what is at a place does not depend on what is read past the end
same_at : {X : Type 0} (xs : List X) (i : ℕ) (d e : X) → i < length xs → get_or xs i d ≡ get_or xs i e
same_at xs i d e lt = get_or_from_slice_get xs i (get_or xs i e) d (slice_get-get_or xs i e lt)

-- two of one number are one
pub alone : {X : Type 0} (f : X → ℕ) (xs : List X) → AllPairs (Differ f) xs → All (λ x. All (λ y. f y ≡ f x → y ≡ x) xs) xs
alone f xs each i d lt j e within same =
    elim (cases_lt i j) [
      | inl before ↦ absurd (each i j d before within (sym same ∙ ap f (same_at xs j e d within)))
      | inr from ↦ elim (cases_lt j i) [
        | inl after ↦ absurd (each j i e after lt (same ∙ ap f (same_at xs i d e lt)))
        | inr to ↦ let here : j ≡ i = omega arith in ap (λ k. get_or xs k e) here ∙ same_at xs i e d lt
      ]
    ]

-- what is left differs from what is removed
pub others_differ : {X : Type 0} (f : X → ℕ) (xs : List X) (n : ℕ) (x : X) → slice_get xs n ≡ Some x
    → AllPairs (Differ f) xs → All (λ y. f y ≢ f x) (remove xs n)
others_differ f xs n x is each i d lt same =
    let within = slice_get_within xs n x is in
    let long = length-remove xs n within in
    let here = get_or_from_slice_get xs n x d is in
    elim (cases_lt i n) [
      | inl below ↦ absurd (each i n d below within (sym (ap f (get_or-remove_below xs n d i below within)) ∙ same ∙ sym (ap f here)))
      | inr above ↦ absurd (each n (i + 1) d (omega arith) (omega arith) (ap f here ∙ sym same ∙ ap f (get_or-remove_above xs n d i above within)))
    ]

-- ---- a search, and changes of the list

find-remove : {X : Type 0} (p : X → Bool) (xs : List X) (n : ℕ) (d : X) → n < length xs → p (get_or xs n d) ≡ false
    → find p (remove xs n) ≡ find p xs
find-remove p [] n d lt fails = absurd (omega arith)
find-remove p (x ∷ xs) zero d lt fails = sym (ap (λ b. cond b (Some x) (find p xs)) fails)
find-remove p (x ∷ xs) (suc n) d lt fails = ap (cond (p x) (Some x)) (find-remove p xs n d (omega arith) fails)

-- a change of the elements that leaves the test
pub find-map : {X : Type 0} (p : X → Bool) (f : X → X) (xs : List X) → ((x : X) → p (f x) ≡ p x)
    → find p (map f xs) ≡ option_map f (find p xs)
find-map p f [] same = refl
find-map p f (x ∷ xs) same =
    ap (λ b. cond b (Some (f x)) (find p (map f xs))) (same x)
    ∙ elim (p x) as (λ b. cond b (Some (f x)) (find p (map f xs)) ≡ option_map f (cond b (Some x) (find p xs))) [
      | true ↦ refl
      | false ↦ find-map p f xs same
    ]

-- one that leaves their numbers
pub find_changed : {X : Type 0} (f : X → ℕ) (g : X → X) (xs : List X) (wanted : ℕ) → ((x : X) → f (g x) ≡ f x)
    → find (λ x. f x == wanted) (map g xs) ≡ option_map g (find (λ x. f x == wanted) xs)
find_changed f g xs wanted same = find-map (λ x. f x == wanted) g xs (λ x. ap (λ n. n == wanted) (same x))

-- the removal of the first of one number leaves the search for another
pub find-remove_other : {X : Type 0} (f : X → ℕ) (xs : List X) (wanted other place : ℕ) (x : X)
    → position (λ x. f x == other) xs ≡ Some place → slice_get xs place ≡ Some x → other ≢ wanted
    → find (λ x. f x == wanted) (remove xs place) ≡ find (λ x. f x == wanted) xs
find-remove_other f xs wanted other place x at is differ =
    let there = position-Some (λ x. f x == other) xs place x at in
    find-remove (λ x. f x == wanted) xs place x there.0 (let test = there.1 in grind (arith, nat_tests))

-- ---- a list that grows at its end

-- there is an element at each place
pub slice_get_at : {X : Type 0} (xs : List X) (n : ℕ) → n < length xs → (x : X) × (slice_get xs n ≡ Some x)
slice_get_at [] n lt = absurd (omega arith)
slice_get_at (x ∷ xs) zero lt = (x, refl)
slice_get_at (x ∷ xs) (suc n) lt = slice_get_at xs n (omega arith)

pub slice_get-left : {X : Type 0} (xs ys : List X) (n : ℕ) → n < length xs → slice_get (xs ++ ys) n ≡ slice_get xs n
slice_get-left [] ys n lt = absurd (omega arith)
slice_get-left (x ∷ xs) ys zero lt = refl
slice_get-left (x ∷ xs) ys (suc n) lt = slice_get-left xs ys n (omega arith)

pub slice_get-last : {X : Type 0} (xs : List X) (x : X) → slice_get (xs ++ x ∷ []) (length xs) ≡ Some x
slice_get-last [] x = refl
slice_get-last (y ∷ ys) x = slice_get-last ys x

-- ---- lists joined end to end, and what is found

pub All-flat_map : {X Y : Type 0} (P : Y → Type 0) (f : X → List Y) (xs : List X) → All (λ x. All P (f x)) xs
    → All P (flat_map f xs)
All-flat_map P f [] each = All-nil P
All-flat_map P f (x ∷ xs) each =
    All-append P (f x) (flat_map f xs) (All-head (λ x. All P (f x)) x xs each)
    (All-flat_map P f xs (All-tail (λ x. All P (f x)) x xs each))

pub All-unflat_map : {X Y : Type 0} (P : Y → Type 0) (f : X → List Y) (xs : List X) → All P (flat_map f xs)
    → All (λ x. All P (f x)) xs
All-unflat_map P f [] each = All-nil (λ x. All P (f x))
All-unflat_map P f (x ∷ xs) each =
    All-cons (λ x. All P (f x)) x xs (All-left P (f x) (flat_map f xs) each)
    (All-unflat_map P f xs (All-right P (f x) (flat_map f xs) each))

pub find_each : {X : Type 0} (P : X → Type 0) (p : X → Bool) (xs : List X) → All P xs → IfSome (find p xs) P
find_each P p [] each = tt
find_each P p (x ∷ xs) each =
    elim (p x) as (λ b. IfSome (cond b (Some x) (find p xs)) P) [
      | true ↦ All-head P x xs each
      | false ↦ find_each P p xs (All-tail P x xs each)
    ]

pub get_each : {X : Type 0} (P : X → Type 0) (xs : List X) (n : ℕ) → All P xs → IfSome (slice_get xs n) P
get_each P [] n each = tt
get_each P (x ∷ xs) zero each = All-head P x xs each
get_each P (x ∷ xs) (suc n) each = get_each P xs n (All-tail P x xs each)

pub then_same : {X Y : Type 0} (f g : X → Option Y) (o : Option X) → IfSome o (λ x. f x ≡ g x)
    → option_and_then f o ≡ option_and_then g o
then_same f g None same = refl
then_same f g (Some x) same = same

pub then_each : {X Y : Type 0} (P : Y → Type 0) (f : X → Option Y) (o : Option X) → IfSome o (λ x. IfSome (f x) P)
    → IfSome (option_and_then f o) P
then_each P f None each = tt
then_each P f (Some x) each = each
