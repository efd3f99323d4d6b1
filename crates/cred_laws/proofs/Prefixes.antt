-- Journals so far, of which one begins another.
use Rattle.std.proofs.Common.{◌≡◌, ℕ, zero, suc, ◌<◌, List, [], ◌∷◌, ◌++◌, length, take, slice_get, Option, Some, refl, ap, subst, arith}
use Rattle.std.specs.Option.{IfSome}
use Rattle.std.proofs.lemmas.List.{take_at}
use Rattle.cred_event.specs.declared.entry.Entry.{Entry}
use Rattle.cred_model.proofs.Lists.{slice_get-left}
use Rattle.cred_model.specs.Script.{Script}
use Rattle.cred_model.specs.Journal.{SoFar, lane_of, next}

-- the entry is of a line of the script, and the next one of that line's lane
abbrev pub ComesNext : Script → List Entry → Entry → Type 0
ComesNext script journal entry =
    (lane : ℕ) × (lane_of script entry.line ≡ Some lane) × (next script journal lane ≡ Some entry)

-- ---- lists

take_in_prefix : {A : Type 0} (a b : List A) (k : ℕ) → k < length a → take k (a ++ b) ≡ take k a
take_in_prefix [] b k lt = absurd (omega arith)
take_in_prefix (x ∷ a) b zero lt = refl
take_in_prefix (x ∷ a) b (suc k) lt = ap (λ xs. x ∷ xs) (take_in_prefix a b k (omega arith))

slice_get_behind : {A : Type 0} (a : List A) (x : A) (b : List A) → slice_get (a ++ x ∷ b) (length a) ≡ Some x
slice_get_behind [] x b = refl
slice_get_behind (y ∷ a) x b = slice_get_behind a x b

index_in_longer : {A : Type 0} (a b : List A) (k : ℕ) → k < length a → k < length (a ++ b)
index_in_longer [] b k lt = absurd (omega arith)
index_in_longer (x ∷ a) b zero lt = omega arith
index_in_longer (x ∷ a) b (suc k) lt = let rest = index_in_longer a b k (omega arith) in omega (arith, rest)

length_behind : {A : Type 0} (a : List A) (x : A) (b : List A) → length a < length (a ++ x ∷ b)
length_behind [] x b = omega arith
length_behind (y ∷ a) x b = let rest = length_behind a x b in omega (arith, rest)

-- what holds at each place of a list, of the elements before it and of the one there, holds in a list that begins it
pub each_of_prefix : {A : Type 0} (Q : List A → Option A → Type 0) (a b : List A)
    → ((k : ℕ) → k < length (a ++ b) → Q (take k (a ++ b)) (slice_get (a ++ b) k))
    → (k : ℕ) → k < length a → Q (take k a) (slice_get a k)
each_of_prefix Q a b each k lt =
    subst (λ xs. Q xs (slice_get a k)) (take_in_prefix a b k lt)
    (subst (λ o. Q (take k (a ++ b)) o) (slice_get-left a b k lt) (each k (index_in_longer a b k lt)))

-- ---- journals

pub so_far_prefix : (script : Script) (a b : List Entry) → SoFar script (a ++ b) → SoFar script a
so_far_prefix script a b each = each_of_prefix (λ before o. IfSome o (λ entry. ComesNext script before entry)) a b each

-- the entry behind a prefix comes next after it
pub comes_behind : (script : Script) (a : List Entry) (entry : Entry) (b : List Entry) → SoFar script (a ++ entry ∷ b)
    → ComesNext script a entry
comes_behind script a entry b each =
    subst (λ before. ComesNext script before entry) (take_at a (entry ∷ b) (length a) refl)
    (subst (λ o. IfSome o (λ e. ComesNext script (take (length a) (a ++ entry ∷ b)) e)) (slice_get_behind a entry b)
    (each (length a) (length_behind a entry b)))
