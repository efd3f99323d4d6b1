use Rattle.std.proofs.Common.{◌≡◌, ◌++◌}
use Rattle.std.specs.Vec.Iter.{into_iter_items}
use Rattle.cred_kernel.proofs.Taking.{Took}
use Rattle.cred_kernel.proofs.passes.take_all.Given as goal

abbrev pub invariant-loop-turn : goal.invariant-loop-turn
invariant-loop-turn g l = record {
  can : (goal.iterator-loop-turn g).can_next l.turn-iterator;
  ends : (goal.iterator-loop-turn g).is_finite l.turn-iterator;
  id : l.roll.id ≡ l.initial.roll.id;
  left : l.yielded ++ into_iter_items l.turn-iterator ≡ into_iter_items l.initial.turn-iterator;
  took : Took l.initial.roll.rows l.roll.rows l.yielded;
}
