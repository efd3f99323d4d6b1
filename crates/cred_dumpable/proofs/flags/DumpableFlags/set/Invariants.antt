use Rattle.std.proofs.Common.{◌≡◌, ◌++◌, map, take, drop}
use Rattle.cred_model.specs.Dumpable.{flagged}
use Rattle.cred_dumpable.proofs.flags.DumpableFlags.set.Given as goal

abbrev pub invariant-loop-flag : goal.invariant-loop-flag
invariant-loop-flag l =
    l.flag-items
    ≡ map (flagged l.process l.dumpable) (take l.flag-index l.initial.flag-items) ++ drop l.flag-index l.initial.flag-items
