use Rattle.std.proofs.Common.{◌≡◌, ◌∷◌, ◌++◌, reverse}
use Rattle.cred_procs.proofs.procs.refer.Given as goal

abbrev pub invariant-loop-number : goal.invariant-loop-number
invariant-loop-number l =
    l.numbers.items ++ reverse l.number-iterator.iter.rest.now
    ≡ l.fn.numbers.items ++ l.thread.current ∷ l.thread.overrides
