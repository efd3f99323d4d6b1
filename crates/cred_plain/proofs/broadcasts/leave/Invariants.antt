use Rattle.std.proofs.Common.{◌≡◌, ◌++◌, map, take, drop}
use Rattle.cred_model.specs.Broadcasts.{without_waiter}
use Rattle.cred_plain.proofs.broadcasts.leave.Given as goal

abbrev pub invariant-loop-broadcast : goal.invariant-loop-broadcast
invariant-loop-broadcast l =
    l.broadcast-items ≡ map (without_waiter l.task) (take l.broadcast-index l.initial.broadcast-items) ++ drop l.broadcast-index l.initial.broadcast-items
