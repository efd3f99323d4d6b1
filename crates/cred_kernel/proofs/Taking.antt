-- Taking the passes back, one lane after another.
use Rattle.std.proofs.Common.{◌≡◌, ◌≢◌, ℕ, ◌+◌, ◌-◌, ◌<◌, ◌≤◌, List, [], ◌∷◌, ◌++◌, length, refl, sym, ap, subst, ◌∙◌, arith, length-append}
use Rattle.std.proofs.lemmas.List.{get_or_at, get_or-set_other}
use Rattle.std.proofs.Math.ListN.{get_or-append}
use mathlib.Core.Logic.{dite}
use native.Mathlib.Decide.{ℕ_discrete}
use Rattle.cred_model.specs.Script.{Script}
use Rattle.cred_turn.specs.declared.view.LaneRow.{LaneRow}
use Rattle.cred_turn.specs.Rows.{fresh, home_row, lent_row, row_of, with_row}
use Rattle.cred_kernel.specs.Turns.{AreAllTurns, SeenTurn, turn_at}

-- The passes of the turns so far came back, and the rows of the others are as at the start.
pub record Took (start rows : List LaneRow) (before : List SeenTurn) : Type 0 where
  pub taken : (k : ℕ) → k < length before → row_of start (k + 1) ≡ lent_row (turn_at before k).numbers
  pub out : (k : ℕ) → length before ≤ k → row_of rows (k + 1) ≡ row_of start (k + 1)

-- in a list of all turns, the next one's lane is one more than the number of those before it
pub lane_is : (script : Script) (all before after : List SeenTurn) (turn : SeenTurn) → AreAllTurns script all → before ++ turn ∷ after ≡ all
    → turn.lane ≡ length before + 1
lane_is script all before after turn are split =
    let here : length before < length all = omega (arith, sym (ap length split) ∙ length-append before (turn ∷ after)) in
    let at : turn_at all (length before) ≡ turn
    = subst (λ (l : List SeenTurn). turn_at l (length before) ≡ turn) split
    (get_or_at before turn after (record { lane = 0; numbers = fresh }) (length before) refl) in
    sym (ap (λ (t : SeenTurn). t.lane) at) ∙ are.in_order (length before) here

pub took_one : (start rows : List LaneRow) (before : List SeenTurn) (turn : SeenTurn) (back : LaneRow) → Took start rows before → turn.lane ≡ length before + 1
    → row_of rows turn.lane ≡ lent_row turn.numbers → Took start (with_row rows turn.lane back) (before ++ turn ∷ [])
took_one start rows before turn back took is was =
    let n : ℕ = length before in
    let d : SeenTurn = record { lane = 0; numbers = fresh } in
    record {
      taken = λ k h.
          dite (ℕ_discrete k n)
          (λ (same : k ≡ n).
          let row : row_of start (n + 1) ≡ lent_row turn.numbers = sym (took.out n (omega arith)) ∙ (ap (row_of rows) (sym is) ∙ was) in
          subst (λ (j : ℕ). row_of start (j + 1) ≡ lent_row (turn_at (before ++ turn ∷ []) j).numbers) (sym same)
          (subst (λ (t : SeenTurn). row_of start (n + 1) ≡ lent_row t.numbers) (sym (get_or_at before turn [] d n refl)) row))
          (λ (apart : k ≢ n).
          let less : k < n = omega (arith, h, length-append before (turn ∷ [])) in
          subst (λ (t : SeenTurn). row_of start (k + 1) ≡ lent_row t.numbers) (sym (get_or-append before (turn ∷ []) d k less)) (took.taken k less));
      out = λ k h.
          let past : n < k = omega (arith, h, length-append before (turn ∷ [])) in
          get_or-set_other rows (turn.lane - 1) (k + 1 - 1) back (home_row fresh) (λ same. omega (arith, is, past, same)) ∙ took.out k (omega arith);
    }
