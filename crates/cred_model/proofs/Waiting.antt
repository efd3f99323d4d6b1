-- Tasks that wait, in rising order.
use Rattle.std.proofs.Common.{◌≡◌, ◌==◌, not, ℕ, zero, suc, ◌-◌, ◌<◌, ◌≤◌, List, [], ◌∷◌, length, slice_get, get_or, Some, Bool, true, is_some, refl, ap, ◌∙◌}
use Rattle.std.proofs.Common.{arith}
use Rattle.std.specs.List.{AllPairs}
use Rattle.std.proofs.lemmas.Option.{get_or_from_slice_get}
use Rattle.cred_ids.specs.Ordered.{in_order}
use Rattle.cred_model.proofs.Rising.{Below, length-in_order}

-- a number of a rising list is at least its place
at_least : (xs : List ℕ) (i d : ℕ) → AllPairs Below xs → i < length xs → i ≤ get_or xs i d
at_least xs zero d up within = omega arith
at_least xs (suc i) d up within =
    let before = at_least xs i d up (omega arith) in
    let above : get_or xs i d < get_or xs (suc i) d = up i (suc i) d (omega arith) within in
    omega arith

-- the greatest of a rising list bounds how many they are
pub greatest_bounds : (xs : List ℕ) (greatest : ℕ) → AllPairs Below xs → 0 < length xs
    → slice_get xs (length xs - 1) ≡ Some greatest → length xs - 1 ≤ greatest
greatest_bounds xs greatest up some is =
    let last = at_least xs (length xs - 1) greatest up (omega arith) in
    let same : get_or xs (length xs - 1) greatest ≡ greatest = get_or_from_slice_get xs (length xs - 1) greatest greatest is in
    omega arith

-- whether somebody waits, by the list before it was put in order
pub open_in_order : (waiting : List ℕ) (empty : Bool) → (length waiting == 0) ≡ empty
    → not (length (in_order waiting) == 0) ≡ not empty
open_in_order waiting empty is = ap (λ n. not (n == 0)) (length-in_order waiting) ∙ ap not is

-- there is a least task that waits
pub has_first : (waiting : List ℕ) → not (length waiting == 0) ≡ true → is_some (slice_get waiting 0) ≡ true
has_first [] some = cc
has_first (n ∷ ns) some = refl
