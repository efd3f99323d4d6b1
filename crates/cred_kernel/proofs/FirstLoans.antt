-- Lending the rows, one lane after another.
use Rattle.std.proofs.Common.{◌≡◌, ◌≢◌, ℕ, ◌+◌, ◌-◌, ◌<◌, ◌≤◌, List, [], ◌∷◌, ◌++◌, length, set, slice_index_or, sym, subst, ◌∙◌, arith}
use Rattle.std.proofs.lemmas.List.{get_or_at, get_or-set_same, get_or-set_other}
use Rattle.std.proofs.Math.ListN.{get_or-append}
use mathlib.Core.Logic.{dite}
use native.Mathlib.Decide.{ℕ_discrete}
use Rattle.cred_turn.specs.declared.view.LaneRow.{LaneRow}
use Rattle.cred_turn.specs.Rows.{fresh, home_row, with_row}
use Rattle.cred_kernel.specs.Turns.{SeenTurn, turn_at}

-- What holds at each of the first places, and at the next one.
one_more : (P : ℕ → Type 0) (n : ℕ) → ((k : ℕ) → k < n → P k) → P n → (k : ℕ) → k < n + 1 → P k
one_more P n before here k lt =
    dite (ℕ_discrete k n)
    (λ (same : k ≡ n). subst P (sym same) here)
    (λ (apart : k ≢ n). before k (omega (arith, lt, apart)))

-- one row more was lent
pub lent_more : (row : ℕ → LaneRow) (rows : List LaneRow) (n : ℕ) (here : LaneRow) → here ≡ row n → n < length rows
    → ((k : ℕ) → k < n → slice_index_or rows k (home_row fresh) ≡ row k)
    → (k : ℕ) → k < n + 1 → slice_index_or (with_row rows (n + 1) here) k (home_row fresh) ≡ row k
lent_more row rows n here is within lent =
    let place : n ≡ n + 1 - 1 = omega arith in
    subst (λ (i : ℕ). (k : ℕ) → k < n + 1 → slice_index_or (set rows i here) k (home_row fresh) ≡ row k) place
    (one_more (λ k. slice_index_or (set rows n here) k (home_row fresh) ≡ row k) n
    (λ k lt. get_or-set_other rows n k here (home_row fresh) (λ same. omega (arith, same, lt)) ∙ lent k lt)
    (get_or-set_same rows n here (home_row fresh) within ∙ is))

-- and those after it are as they were
pub home_after : (rows : List LaneRow) (n k : ℕ) (here : LaneRow) → n + 1 ≤ k
    → slice_index_or (with_row rows (n + 1) here) k (home_row fresh) ≡ slice_index_or rows k (home_row fresh)
home_after rows n k here past = get_or-set_other rows (n + 1 - 1) k here (home_row fresh) (λ same. omega (arith, same, past))

-- one turn more
pub turns_more : (turn : ℕ → SeenTurn) (turns : List SeenTurn) (n : ℕ) (here : SeenTurn) → here ≡ turn n → length turns ≡ n
    → ((k : ℕ) → k < n → turn_at turns k ≡ turn k) → (k : ℕ) → k < n + 1 → turn_at (turns ++ here ∷ []) k ≡ turn k
turns_more turn turns n here is count are =
    let d : SeenTurn = record { lane = 0; numbers = fresh } in
    one_more (λ k. turn_at (turns ++ here ∷ []) k ≡ turn k) n
    (λ k lt. get_or-append turns (here ∷ []) d k (omega (arith, count, lt)) ∙ are k lt)
    (get_or_at turns here [] d n count ∙ is)
