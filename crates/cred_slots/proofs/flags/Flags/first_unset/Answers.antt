use Rattle.std.proofs.Common.{sym, arith}
use Rattle.cred_slots.proofs.Words.{first_unset-at, first_unset-nowhere}
use Rattle.cred_slots.proofs.flags.Flags.first_unset.Goals as goal

pub returns-in-Some : goal.returns-in-Some
returns-in-Some c =
    let found = c.in-Some.ensures in
    rw (← c.self.view_is)
    (sym (first_unset-at c.self.inside.words c.loop-index.index c.in-Some.bit (omega arith) found.0 c.loop-index.invariant found.1 found.2))

pub returns : goal.returns
returns c = rw (← c.self.view_is) (sym (first_unset-nowhere c.self.inside.words (λ k h. c.loop-index.invariant k (omega arith))))
