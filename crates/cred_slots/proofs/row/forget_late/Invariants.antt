use Rattle.std.proofs.Common.{◌≡◌, ℕ, ◌<◌, ◌≤◌}
use Rattle.cred_slots.specs.Rows.{row_at, without_late}
use Rattle.cred_slots.proofs.row.forget_late.Given as goal

abbrev pub invariant-loop-row : goal.invariant-loop-row
invariant-loop-row l = record {
  before : (k : ℕ) → k < l.row-index → row_at l.rows k ≡ without_late (row_at l.fn.rows k);
  after : (k : ℕ) → l.row-index ≤ k → row_at l.rows k ≡ row_at l.fn.rows k;
}
