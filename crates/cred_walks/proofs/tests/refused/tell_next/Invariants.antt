use Rattle.std.proofs.Common.{◌≡◌}
use Rattle.cred_walks.proofs.tests.refused.tell_next.Given as goal

abbrev pub invariant-loop-call : goal.invariant-loop-call
invariant-loop-call l = l.book.words ≡ l.initial.book.words
