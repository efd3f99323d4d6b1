use Rattle.std.proofs.Common.{◌≡◌}
use Rattle.cred_lanes.specs.Works.{IsReturn}
use Rattle.cred_lanes.proofs.workers.run_lane.Given as goal

abbrev pub invariant-loop : goal.invariant-loop
invariant-loop g l = (l.turn.lane ≡ l.fn.turn.lane) × IsReturn g.K.Name.script g.K.Name.inodes g.K.Name.cells l.turn l.step
