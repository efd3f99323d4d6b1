use Rattle.std.proofs.Common.{◌≡◌, ◌++◌, map, take, drop}
use Rattle.cred_model.specs.Moves.{updated}
use Rattle.cred_plain.proofs.tasks.Tasks.set_current.Given as goal

abbrev pub invariant-loop-other : goal.invariant-loop-other
invariant-loop-other l =
    l.other-items
    ≡ map (updated l.task l.number) (take l.other-index l.initial.other-items) ++ drop l.other-index l.initial.other-items
