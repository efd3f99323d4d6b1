use Rattle.std.proofs.Common.{◌≡◌}
use Rattle.cred_walks.proofs.tests.broadcasts.first_other.Given as goal

abbrev pub invariant-rows : goal.invariant-rows
invariant-rows l = l.book.words ≡ l.initial.book.words
