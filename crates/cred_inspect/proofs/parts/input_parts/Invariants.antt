use Rattle.std.proofs.Common.{length}
use Rattle.cred_inspect.proofs.ReportLine.{Passed}
use Rattle.cred_inspect.proofs.parts.input_parts.Given as goal

abbrev pub invariant-loop-rest : goal.invariant-loop-rest
invariant-loop-rest l = Passed l.input l.rest

abbrev pub decreases-loop-rest : goal.decreases-loop-rest
decreases-loop-rest l = length l.rest
