use Rattle.std.proofs.Common.{◌≡◌, Bool, List, true, false, sym, ap, ◌∙◌}
use Rattle.cred_record.specs.Credential.{Credential}
use Rattle.cred_model.specs.Script.{Namespace, reaches}
use Rattle.cred_plain.specs.Creds.{seen_numbered}
use Rattle.cred_plain.proofs.Places.{none_is}
use Rattle.cred_machine.proofs.Refusals.{trace_own, trace_other, traces}
use Rattle.cred_machine.proofs.Seen.{seen_state, seen_task}
use Rattle.cred_machine.proofs.state.State.trace.Goals as goal

-- the namespaces of the credentials that were read
reach_is : (namespaces : List Namespace) (asker own asked other : Credential) (reach : Bool)
    → asker ≡ own → asked ≡ other → reach ≡ reaches namespaces asker.ns asked.ns
    → reach ≡ reaches namespaces own.ns other.ns
reach_is namespaces asker own asked other reach read seen is =
    is
    ∙ ap (λ (c : Credential). reaches namespaces c.ns asked.ns) read
    ∙ ap (λ (c : Credential). reaches namespaces own.ns c.ns) seen

pub returns-in_default-held : goal.returns-in_default-held
returns-in_default-held c =
    let s = seen_state c.self.inside in
    rw (← c.self.view_is)
    (trace_own c.args.script.now s c.args.from c.args.hold c.args.to c.args.target c.args.mode c.in-Some.sender.now c.in-Some-get.receiver.now
    (sym c.in-Some.ensures) (sym c.in-Some-get.ensures) (rw (← c.self.view_is) at (none_is seen_numbered c.held.result _ c.held.ensures c.in_default-held.is)))

pub returns-in_default-held-2 : goal.returns-in_default-held-2
returns-in_default-held-2 c =
    let s = seen_state c.self.inside in
    rw (← c.self.view_is)
    (trace_other c.args.script.now s c.args.from c.args.hold c.args.to c.args.target c.args.mode c.in-Some.sender.now c.in-Some-get.receiver.now
    (sym c.in-Some.ensures) (sym c.in-Some-get.ensures) (seen_numbered c.in-Some-held.own) (rw (← c.self.view_is) at (sym c.in-Some-held.ensures))
    (rw (← c.self.view_is) at (none_is seen_numbered c.held-2.result _ c.held-2.ensures c.in_default-held-2.is)))

pub returns-then-may_trace : goal.returns-then-may_trace
returns-then-may_trace c =
    let s = seen_state c.self.inside in
    let sender = seen_task c.sender.inside in
    let receiver = seen_task c.receiver.inside in
    rw (← c.self.view_is)
    (traces c.args.script.now s c.args.from c.args.hold c.args.to c.args.target c.args.mode sender receiver (rw (← c.sender.view_is) at (sym c.in-Some.ensures))
    (rw (← c.receiver.view_is) at (sym c.in-Some-get.ensures)) (seen_numbered c.in-Some-held.own) (seen_numbered c.in-Some-held-2.other)
    (rw (← c.self.view_is) at (sym c.in-Some-held.ensures)) (rw (← c.self.view_is) at (sym c.in-Some-held-2.ensures)) c.reaches-reach.result
    c.is_dumpable-dumpable.result c.may_trace.result true
    (reach_is c.args.script.now.namespaces _ _ _ _ _ c.asker.view_is c.asked.view_is c.reaches-reach.ensures) c.is_dumpable-dumpable.ensures c.may_trace.ensures
    c.if-may_trace.true)

pub returns-else-may_trace : goal.returns-else-may_trace
returns-else-may_trace c =
    let s = seen_state c.self.inside in
    let sender = seen_task c.sender.inside in
    let receiver = seen_task c.receiver.inside in
    rw (← c.self.view_is)
    (traces c.args.script.now s c.args.from c.args.hold c.args.to c.args.target c.args.mode sender receiver (rw (← c.sender.view_is) at (sym c.in-Some.ensures))
    (rw (← c.receiver.view_is) at (sym c.in-Some-get.ensures)) (seen_numbered c.in-Some-held.own) (seen_numbered c.in-Some-held-2.other)
    (rw (← c.self.view_is) at (sym c.in-Some-held.ensures)) (rw (← c.self.view_is) at (sym c.in-Some-held-2.ensures)) c.reaches-reach.result
    c.is_dumpable-dumpable.result c.may_trace.result false
    (reach_is c.args.script.now.namespaces _ _ _ _ _ c.asker.view_is c.asked.view_is c.reaches-reach.ensures) c.is_dumpable-dumpable.ensures c.may_trace.ensures
    c.if-may_trace.false)
