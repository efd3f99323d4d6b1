-- Lists that were written over from their beginning.
use Rattle.std.proofs.Common.{◌≡◌, ℕ, ◌≤◌, List, ◌++◌, drop, length, map, take, arith, ap, ◌∙◌, append-nil}
use Rattle.std.proofs.lemmas.List.{drop_all, take_all}

-- what was written over a whole list
pub written : {X : Type 0} (now before : List X) (n : ℕ) → length now ≡ length before → n ≡ length now
    → take n (now ++ drop (length now) before) ≡ now
written now before n same is =
    ap (λ xs. take n (now ++ xs)) (drop_all (length now) before (omega arith))
    ∙ ap (take n) (append-nil now)
    ∙ take_all n now (omega arith)

-- each element was changed, up to the end
pub changed_all : {X : Type 0} (f : X → X) (xs : List X) (n : ℕ) → length xs ≤ n → map f (take n xs) ++ drop n xs ≡ map f xs
changed_all f xs n past =
    ap (λ ys. map f ys ++ drop n xs) (take_all n xs past)
    ∙ ap (λ ys. map f xs ++ ys) (drop_all n xs past)
    ∙ append-nil (map f xs)
