-- What the workers gave back, one lane after another.
use Rattle.std.proofs.Common.{◌≡◌, ◌≢◌, ℕ, ◌+◌, ◌<◌, List, [], ◌∷◌, ◌++◌, length, get_or}
use Rattle.std.proofs.Common.{refl, sym, ap, subst, ◌∙◌, arith, length-append, None, Result, Ok}
use Rattle.std.specs.Prelude.{IfOk}
use Rattle.std.proofs.lemmas.List.{get_or_at}
use Rattle.std.proofs.Math.ListN.{get_or-append}
use Rattle.cred_turn.specs.Rows.{fresh}
use Rattle.cred_kernel.specs.Turns.{SeenTurn, turn_at}
use Rattle.cred_lanes.specs.Works.{AllStopped}
use mathlib.Core.Logic.{dite}
use native.Mathlib.Decide.{ℕ_discrete}

-- the first turns are those of the first lanes, of which no line is being decided
abbrev pub StoppedUpTo : ℕ → List SeenTurn → Type 0
StoppedUpTo n turns =
    (k : ℕ) → k < n → ((turn_at turns k).lane ≡ k + 1) × ((turn_at turns k).numbers.out ≡ None)

-- one more worker has stopped
pub stopped_more : {E : Type 0} (done before after : List (Result SeenTurn E))
    (x : Result SeenTurn E) (turn : SeenTurn) (turns : List SeenTurn)
    → AllStopped done → before ++ x ∷ after ≡ done → x ≡ Ok turn
    → length turns ≡ length before → StoppedUpTo (length before) turns
    → StoppedUpTo (length (before ++ x ∷ [])) (turns ++ turn ∷ [])
stopped_more {E} done before after x turn turns each split is len up k h =
    let n : ℕ = length before in
    let d : SeenTurn = record { lane = 0; numbers = fresh } in
    let P : ℕ → SeenTurn → Type 0 = λ j t. (t.lane ≡ j + 1) × (t.numbers.out ≡ None) in
    dite (ℕ_discrete k n)
    (λ (eq : k ≡ n).
    let at : get_or done n x ≡ x =
    subst (λ (l : List (Result SeenTurn E)). get_or l n x ≡ x) split
    (get_or_at before x after x n refl) in
    let here : n < length done =
    omega (arith, sym (ap length split) ∙ length-append before (x ∷ after)) in
    let fact : P n turn =
    subst (λ (r : Result SeenTurn E). IfOk r (P n)) (at ∙ is) (each n x here) in
    subst (λ (j : ℕ). P j (turn_at (turns ++ turn ∷ []) j)) (sym eq)
    (subst (P n) (sym (get_or_at turns turn [] d n len)) fact))
    (λ (ne : k ≢ n).
    let less : k < n = omega (arith, length-append before (x ∷ [])) in
    subst (P k) (sym (get_or-append turns (turn ∷ []) d k (omega arith))) (up k less))
