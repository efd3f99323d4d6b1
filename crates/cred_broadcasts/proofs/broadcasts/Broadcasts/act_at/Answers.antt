use Rattle.std.proofs.Common.{◌∙◌, sym, subst}
use Rattle.cred_broadcasts.specs.Broadcasts.{AreBroadcasts}
use Rattle.cred_broadcasts.proofs.Kept.{are_left}
use Rattle.cred_broadcasts.proofs.Left.{left_beside, left_open, left_closed}
use Rattle.cred_broadcasts.proofs.broadcasts.Broadcasts.act_at.Goals as goal

pub returns-then-left-eq0-clause-left : goal.returns-then-left-eq0-clause-left
returns-then-left-eq0-clause-left c =
    let broadcasts = c.self.inside.broadcasts.items in
    rw (← c.self.view_is)
    (left_beside broadcasts c.args.task c.args.place c.index_mut-broadcast.result.now c.self.invariant (rw (← c.self.view_is) at c.requires)
    c.index_mut-broadcast.ensures.value
    c.others-left.result c.others-left.ensures)

pub returns-else-left-eq0-clause-left : goal.returns-else-left-eq0-clause-left
returns-else-left-eq0-clause-left c =
    let broadcasts = c.self.inside.broadcasts.items in
    rw (← c.self.view_is)
    (left_beside broadcasts c.args.task c.args.place c.index_mut-broadcast.result.now c.self.invariant (rw (← c.self.view_is) at c.requires)
    c.index_mut-broadcast.ensures.value
    c.others-left.result c.others-left.ensures)

pub returns-then-left-eq0-clause-broadcasts : goal.returns-then-left-eq0-clause-broadcasts
returns-then-left-eq0-clause-broadcasts c =
    let broadcasts = c.self.inside.broadcasts.items in
    rw (← c.self.view_is)
    (c.close.ensures
    ∙ left_closed broadcasts c.args.task c.args.place c.index_mut-broadcast.result.now c.self.invariant (rw (← c.self.view_is) at c.requires)
    c.index_mut-broadcast.ensures.value
    c.others-left.result c.others-left.ensures c.step.new.self c.step.ensures c.if-left-eq0.true)

pub returns-else-left-eq0-clause-broadcasts : goal.returns-else-left-eq0-clause-broadcasts
returns-else-left-eq0-clause-broadcasts c =
    let broadcasts = c.self.inside.broadcasts.items in
    rw (← c.self.view_is)
    (left_open broadcasts c.args.task c.args.place c.index_mut-broadcast.result.now c.self.invariant (rw (← c.self.view_is) at c.requires)
    c.index_mut-broadcast.ensures.value
    c.others-left.result c.others-left.ensures c.step.new.self c.step.ensures c.if-left-eq0.false)

pub invariant_of-self : goal.invariant_of-self
invariant_of-self c =
    let broadcasts = c.self.inside.broadcasts.items in
    let left
    = c.close.ensures
    ∙ left_closed broadcasts c.args.task c.args.place c.index_mut-broadcast.result.now c.self.invariant (rw (← c.self.view_is) at c.requires)
    c.index_mut-broadcast.ensures.value
    c.others-left.result c.others-left.ensures c.step.new.self c.step.ensures c.if-left-eq0.true in
    subst AreBroadcasts (sym left) (are_left c.args.task broadcasts c.self.invariant)

pub invariant_of-self-else-left-eq0 : goal.invariant_of-self-else-left-eq0
invariant_of-self-else-left-eq0 c =
    let broadcasts = c.self.inside.broadcasts.items in
    let left
    = left_open broadcasts c.args.task c.args.place c.index_mut-broadcast.result.now c.self.invariant (rw (← c.self.view_is) at c.requires)
    c.index_mut-broadcast.ensures.value
    c.others-left.result c.others-left.ensures c.step.new.self c.step.ensures c.if-left-eq0.false in
    subst AreBroadcasts (sym left) (are_left c.args.task broadcasts c.self.invariant)
