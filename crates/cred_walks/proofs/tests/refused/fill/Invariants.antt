use Rattle.std.proofs.Common.{◌≡◌}
use Rattle.cred_walks.proofs.tests.refused.fill.Given as goal

abbrev pub invariant-loop-label : goal.invariant-loop-label
invariant-loop-label l = l.book.words ≡ l.initial.book.words
