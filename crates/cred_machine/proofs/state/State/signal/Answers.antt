use Rattle.std.proofs.Common.{sym}
use Rattle.cred_plain.specs.Creds.{seen_numbered}
use Rattle.cred_plain.proofs.Places.{none_is}
use Rattle.cred_machine.proofs.Refusals.{signal_own, signal_other, signal_may, signal_may_not}
use Rattle.cred_machine.proofs.Seen.{seen_state, seen_task}
use Rattle.cred_machine.proofs.state.State.signal.Goals as goal

pub returns-in_default-held : goal.returns-in_default-held
returns-in_default-held c =
    let s = seen_state c.self.inside in
    rw (← c.self.view_is)
    (signal_own s c.args.from c.args.hold c.args.to c.args.target c.in-Some.sender.now c.in-Some-get.receiver.now (sym c.in-Some.ensures)
    (sym c.in-Some-get.ensures) (rw (← c.self.view_is) at (none_is seen_numbered c.held.result _ c.held.ensures c.in_default-held.is)))

pub returns-in_default-held-2 : goal.returns-in_default-held-2
returns-in_default-held-2 c =
    let s = seen_state c.self.inside in
    rw (← c.self.view_is)
    (signal_other s c.args.from c.args.hold c.args.to c.args.target c.in-Some.sender.now c.in-Some-get.receiver.now (sym c.in-Some.ensures)
    (sym c.in-Some-get.ensures) (seen_numbered c.in-Some-held.own) (rw (← c.self.view_is) at (sym c.in-Some-held.ensures))
    (rw (← c.self.view_is) at (none_is seen_numbered c.held-2.result _ c.held-2.ensures c.in_default-held-2.is)))

pub returns-then-may_signal : goal.returns-then-may_signal
returns-then-may_signal c =
    let s = seen_state c.self.inside in
    let sender = seen_task c.sender.inside in
    let receiver = seen_task c.receiver.inside in
    rw (← c.self.view_is)
    (signal_may s c.args.from c.args.hold c.args.to c.args.target sender receiver (rw (← c.sender.view_is) at (sym c.in-Some.ensures))
    (rw (← c.receiver.view_is) at (sym c.in-Some-get.ensures)) (seen_numbered c.in-Some-held.own) (seen_numbered c.in-Some-held-2.other)
    (rw (← c.self.view_is) at (sym c.in-Some-held.ensures)) (rw (← c.self.view_is) at (sym c.in-Some-held-2.ensures)) c.may_signal.result c.may_signal.ensures
    c.if-may_signal.true)

pub returns-else-may_signal : goal.returns-else-may_signal
returns-else-may_signal c =
    let s = seen_state c.self.inside in
    let sender = seen_task c.sender.inside in
    let receiver = seen_task c.receiver.inside in
    rw (← c.self.view_is)
    (signal_may_not s c.args.from c.args.hold c.args.to c.args.target sender receiver (rw (← c.sender.view_is) at (sym c.in-Some.ensures))
    (rw (← c.receiver.view_is) at (sym c.in-Some-get.ensures)) (seen_numbered c.in-Some-held.own) (seen_numbered c.in-Some-held-2.other)
    (rw (← c.self.view_is) at (sym c.in-Some-held.ensures)) (rw (← c.self.view_is) at (sym c.in-Some-held-2.ensures)) c.may_signal.result c.may_signal.ensures
    c.if-may_signal.false)
