use Rattle.std.proofs.Common.{sym, arith}
use Rattle.cred_machine.proofs.Marks.{first_clear-is, first_clear-none}
use Rattle.cred_machine.proofs.slots.Marks.first_clear.Goals as goal

pub returns-then-self-lt-SLOTS-clause-slot : goal.returns-then-self-lt-SLOTS-clause-slot
returns-then-self-lt-SLOTS-clause-slot c =
    let from = c.clear_from-self-inside in
    rw (← c.self.view_is)
    (sym (first_clear-is c.self.inside.marks.items from.result c.if-self-lt-SLOTS.true
    (rw c.deref.ensures.value at (from.ensures.clear c.if-self-lt-SLOTS.true)) (rw c.deref.ensures.value at from.ensures.marked)))

pub returns-clause-slot : goal.returns-clause-slot
returns-clause-slot c =
    let from = c.clear_from-self-inside in
    rw (← c.self.view_is)
    (sym (first_clear-none c.self.inside.marks.items (λ k h. (rw c.deref.ensures.value at from.ensures.marked) k (omega (arith, h, c.if-self-lt-SLOTS.false)))))
