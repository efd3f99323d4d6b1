use Rattle.std.proofs.Common.{◌≡◌, None}
use Rattle.cred_lanes.proofs.workers.advance_some.Given as goal

abbrev pub invariant-loop : goal.invariant-loop
invariant-loop g l = (l.guard.lane ≡ l.fn.guard.lane) × (l.guard.numbers.out ≡ None)
