use Rattle.std.proofs.Common.{length}
use Rattle.cred_audit.proofs.Reports.{Compared}
use Rattle.cred_audit.proofs.verdict.compare.Given as goal

abbrev pub invariant-entries : goal.invariant-entries
invariant-entries l = Compared l.script l.report l.rest l.entry l.run

abbrev pub decreases-entries : goal.decreases-entries
decreases-entries l = length l.rest
