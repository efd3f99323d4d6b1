use Rattle.std.proofs.Common.{◌≡◌, ◌++◌, length}
use Rattle.std.specs.Vec.Iter.{into_iter_items}
use Rattle.cred_lanes.proofs.Ends.{StoppedUpTo}
use Rattle.cred_lanes.proofs.workers.all_turns.Given as goal

abbrev pub invariant-loop-turn : goal.invariant-loop-turn
invariant-loop-turn g l = record {
  left : l.yielded ++ into_iter_items l.turn-iterator ≡ into_iter_items l.initial.turn-iterator;
  count : length l.turns.items ≡ length l.yielded;
  home : StoppedUpTo (length l.yielded) l.turns.items;
}
