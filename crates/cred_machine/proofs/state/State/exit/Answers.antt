use Rattle.std.proofs.Common.{refl, sym}
use Rattle.cred_event.specs.declared.answer.Answer.TheVariants.{Busy}
use Rattle.cred_machine.proofs.Refusals.{exit_busy}
use Rattle.cred_machine.proofs.Leads.{busy_at, exit_leads}
use Rattle.cred_machine.proofs.Seen.{seen_state, seen_task}
use Rattle.cred_machine.proofs.state.State.exit.Goals as goal

pub returns-in-Some-begun_by-clause-ok : goal.returns-in-Some-begun_by-clause-ok
returns-in-Some-begun_by-clause-ok c =
    let s = seen_state c.self.inside in
    rw (← c.self.view_is)
    (exit_busy s c.args.task c.in-Some.owner.now (Busy c.in-Some-begun_by.broadcast) (sym c.in-Some.ensures)
    (busy_at s _ c.args.task _ c.deref.ensures.value c.in-Some-begun_by.ensures))

pub returns-clause-ok : goal.returns-clause-ok
returns-clause-ok c =
    let s = seen_state c.self.inside in
    let o = seen_task c.owner.inside in
    rw (← c.self.view_is)
    (exit_leads s c.args.task o _ _ _ _ _ _ (rw (← c.owner.view_is) at (sym c.in-Some.ensures))
    (busy_at s _ c.args.task _ c.deref.ensures.value c.in_default-begun_by.ensures)
    (rw (← c.owner.view_is) at c.in_default-overridden.ensures) c.end.ensures c.leave.ensures c.in_ok-defer_left.ensures.ok refl
    c.leave-2.ensures c.has_other-has_other.ensures)
