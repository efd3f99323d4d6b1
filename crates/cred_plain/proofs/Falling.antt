-- Who waits, in falling order.
use Rattle.std.proofs.Common.{◌≡◌, ◌∙◌, ◌||◌, ◌-◌, ℕ, cond, Bool, true, false, List, [], ◌∷◌, ◌++◌, drop, length, reverse, slice_get, Some, refl}
use Rattle.std.proofs.Common.{sym, ap, subst, arith, append-nil}
use Rattle.std.specs.List.{filter, list_any}
use Rattle.std.specs.List.Sorted.{IsNonDecreasing, IsPermutation}
use Rattle.std.proofs.lemmas.Grind.{reverse_onto}
use Rattle.std.proofs.lemmas.List.{length-append, reverse-append, reverse-reverse}
use Rattle.std.proofs.lemmas.List.Elements.{filter-append}
use Rattle.std.proofs.lemmas.List.Folds.{list_any-append}
use Rattle.std.proofs.lemmas.List.Sorted.{IsPermutation-append_left, IsPermutation-reverse, IsPermutation-sym, IsPermutation-trans}
use Rattle.cred_ids.specs.Ordered.{in_order}
use Rattle.cred_ids.proofs.InOrder.{in_order-is}
use Rattle.cred_model.proofs.Lists.{slice_get-last}

-- the first of a list is the last of it turned round
last_turned : (n : ℕ) (ns : List ℕ) → slice_get (ns ++ n ∷ []) (length (ns ++ n ∷ []) - 1) ≡ Some n
last_turned n ns =
    let many = length-append ns (n ∷ []) in
    let last : length (ns ++ n ∷ []) - 1 ≡ length ns = omega arith in
    ap (slice_get (ns ++ n ∷ [])) last ∙ slice_get-last ns n

pub first_is : (ns : List ℕ) → slice_get ns 0 ≡ slice_get (reverse ns) (length (reverse ns) - 1)
first_is [] = refl
first_is (n ∷ ns) =
    sym (ap (λ (ms : List ℕ). slice_get ms (length ms - 1)) (reverse_onto ns n []) ∙ last_turned n (reverse ns))

-- and the last is the first
pub last_is : (ns : List ℕ) → slice_get (reverse ns) 0 ≡ slice_get ns (length ns - 1)
last_is ns = first_is (reverse ns) ∙ ap (λ (ms : List ℕ). slice_get ms (length ms - 1)) (reverse-reverse ns)

-- what is left without the last
pub without_last : (ns : List ℕ) (n : ℕ) → reverse ns ≡ drop 1 (reverse (ns ++ n ∷ []))
without_last ns n = ap (drop 1) (sym (reverse-append ns (n ∷ [])))

-- what any of them is, or which of them are kept, doesn't depend on the order
or_last : (a b : Bool) → (a || b) ≡ (b || (a || false))
or_last true true = refl
or_last true false = refl
or_last false true = refl
or_last false false = refl

pub any_turned : (p : ℕ → Bool) (ns : List ℕ) → list_any p (reverse ns) ≡ list_any p ns
any_turned p [] = refl
any_turned p (n ∷ ns) =
    ap (list_any p) (reverse_onto ns n [])
    ∙ list_any-append p (reverse ns) (n ∷ [])
    ∙ sym (or_last (p n) (list_any p (reverse ns)))
    ∙ ap (λ b. p n || b) (any_turned p ns)

one_turned : (n : ℕ) (ks ms : List ℕ) → reverse ks ≡ ms → (b : Bool) → reverse (cond b (n ∷ ks) ks) ≡ ms ++ cond b (n ∷ []) []
one_turned n ks ms is true = reverse_onto ks n [] ∙ ap (λ ls. ls ++ n ∷ []) is
one_turned n ks ms is false = is ∙ sym (append-nil ms)

pub kept_turned : (p : ℕ → Bool) (ns : List ℕ) → reverse (filter p ns) ≡ filter p (reverse ns)
kept_turned p [] = refl
kept_turned p (n ∷ ns) =
    one_turned n (filter p ns) (filter p (reverse ns)) (kept_turned p ns) (p n)
    ∙ sym (ap (filter p) (reverse_onto ns n []) ∙ filter-append p (reverse ns) (n ∷ []))

-- one more, and all sorted
pub sorted_is : (ns pushed sorted : List ℕ) (n : ℕ) → pushed ≡ ns ++ n ∷ [] → IsPermutation pushed sorted → IsNonDecreasing sorted
    → sorted ≡ in_order (reverse ns ++ n ∷ [])
sorted_is ns pushed sorted n is same up =
    let before = reverse ns ++ n ∷ [] in
    let turned : IsPermutation before (ns ++ n ∷ [])
    = IsPermutation-append_left (n ∷ []) (reverse ns) ns (IsPermutation-sym ns (reverse ns) (IsPermutation-reverse ns)) in
    in_order-is before sorted
    (IsPermutation-trans before (ns ++ n ∷ []) sorted turned (subst (λ (ms : List ℕ). IsPermutation ms sorted) is same)) up
