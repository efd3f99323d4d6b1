use Rattle.std.proofs.Common.{◌≡◌, drop, max}
use Rattle.cred_script.specs.Lanes.{lanes}
use Rattle.cred_script.proofs.script.greatest_lane.Given as goal

abbrev pub invariant-loop-line : goal.invariant-loop-line
invariant-loop-line l = max l.greatest (lanes (drop l.line-index l.lines)) ≡ lanes l.lines
