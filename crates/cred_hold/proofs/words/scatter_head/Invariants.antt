use Rattle.std.proofs.Common.{◌≡◌}
use Rattle.cred_record.specs.Words.{words_of}
use Rattle.cred_hold.proofs.Whole.{PutTo}
use Rattle.cred_hold.proofs.words.scatter_head.Given as goal

abbrev pub invariant-loop-i : goal.invariant-loop-i
invariant-loop-i l = (l.writer.id ≡ l.fn.writer.id) × PutTo l.fn.writer.token l.writer.token (words_of l.head) l.i
