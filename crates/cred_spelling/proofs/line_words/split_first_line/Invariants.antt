use Rattle.std.proofs.Common.{length}
use Rattle.cred_spelling.specs.Read.{nows}
use Rattle.cred_spelling.proofs.LineWords.{IsPast}
use Rattle.cred_spelling.proofs.line_words.split_first_line.Given as goal

abbrev pub invariant-loop-behind : goal.invariant-loop-behind
invariant-loop-behind l = IsPast l.bytes l.behind (nows l.words.items)

abbrev pub decreases-loop-behind : goal.decreases-loop-behind
decreases-loop-behind l = length l.behind
