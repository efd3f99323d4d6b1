use Rattle.std.proofs.Common.{◌≡◌}
use Rattle.cred_hold.proofs.Whole.{Cleared}
use Rattle.cred_hold.proofs.words.clear.Given as goal

abbrev pub invariant-loop-i : goal.invariant-loop-i
invariant-loop-i l = (l.writer.id ≡ l.initial.writer.id) × Cleared l.initial.writer.token l.writer.token l.first l.last l.i
