use Rattle.std.proofs.Common.{◌≡◌, ℕ, ◌+◌, ◌<◌, ◌≤◌, length, slice_index_or}
use Rattle.cred_script.specs.Lanes.{lanes}
use Rattle.cred_turn.specs.Rows.{fresh, home_row, lent_row}
use Rattle.cred_kernel.specs.Locks.{numbers_in}
use Rattle.cred_kernel.specs.Turns.{turn_at}
use Rattle.cred_kernel.proofs.passes.lend_all.Given as goal

abbrev pub invariant-lanes : goal.invariant-lanes
invariant-lanes g l = record {
  id : l.roll.id ≡ l.initial.roll.id;
  end : l.place-end ≡ lanes l.fn.book.script.lines;
  len : length l.roll.rows ≡ l.place-end;
  lent : (k : ℕ) → k < l.place → slice_index_or l.roll.rows k (home_row fresh) ≡ lent_row (numbers_in l.fn.book (k + 1));
  home : (k : ℕ) → l.place ≤ k → k < l.place-end → slice_index_or l.roll.rows k (home_row fresh) ≡ home_row fresh;
  count : length l.turns.items ≡ l.place;
  turns : (k : ℕ) → k < l.place → turn_at l.turns.items k ≡ record { lane = k + 1; numbers = numbers_in l.fn.book (k + 1) };
}
