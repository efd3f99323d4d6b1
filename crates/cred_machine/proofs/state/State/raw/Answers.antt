use Rattle.std.proofs.Common.{sym}
use Rattle.cred_event.specs.declared.answer.Answer.TheVariants.{Busy}
use Rattle.cred_plain.specs.Creds.{seen_numbered}
use Rattle.cred_machine.proofs.Alone.{can_call, calls, raw_busy, raw_refused}
use Rattle.cred_machine.proofs.Begins.{same_answer}
use Rattle.cred_machine.proofs.Leads.{idle_in}
use Rattle.cred_machine.proofs.Seen.{seen_state, seen_task}
use Rattle.cred_machine.proofs.state.State.raw.Goals as goal

pub returns-in-Some-open_in-clause-ok : goal.returns-in-Some-open_in-clause-ok
returns-in-Some-open_in-clause-ok c =
    let s = seen_state c.self.inside in
    let o = seen_task c.owner.inside in
    rw (← c.self.view_is)
    (raw_busy s c.args.task c.args.call.now o (seen_numbered c.in-Some-get.old)
    (rw (← c.owner.view_is) at (sym c.in-Some.ensures)) (sym c.in-Some-get.ensures) (Busy c.in-Some-open_in.broadcast)
    (idle_in s _ o.process _ c.deref.ensures.value c.in-Some-open_in.ensures))

pub returns-in-Err-clause-ok : goal.returns-in-Err-clause-ok
returns-in-Err-clause-ok c =
    let s = seen_state c.self.inside in
    let o = seen_task c.owner.inside in
    let old = seen_numbered c.in-Some-get.old in
    let can = can_call s c.args.task o _ old _ c.in-Some.ensures c.owner.view_is c.in-Some-get.ensures c.deref.ensures.value
    c.in_default-open_in.ensures c.in_default-overridden.ensures in
    rw (← c.self.view_is)
    (raw_refused s c.args.task c.args.call.now o old can c.refusal_answer.result c.in-Err.refusal c.in-Err.ensures c.refusal_answer.ensures.answer)

pub returns-clause-ok : goal.returns-clause-ok
returns-clause-ok c =
    let s = seen_state c.self.inside in
    let o = seen_task c.owner.inside in
    let old = seen_numbered c.in-Some-get.old in
    let can = can_call s c.args.task o _ old _ c.in-Some.ensures c.owner.view_is c.in-Some-get.ensures c.deref.ensures.value
    c.in_default-open_in.ensures c.in_default-overridden.ensures in
    rw (← c.self.view_is)
    (same_answer _ _ c.replace_alone.result c.replace_alone.new.self
    (calls s c.args.task c.args.call.now o old can c.in-Ok.cred c.differs-ids_changed.result c.in-Ok.ensures c.differs-ids_changed.ensures)
    (rw (← c.self.view_is) at c.replace_alone.ensures.ok))
