use Rattle.std.proofs.Common.{List, Bool, None, ◌==◌, rules, ap, sym, ◌∙◌}
use Rattle.cred_event.specs.declared.answer.Answer.TheVariants.{Busy}
use Rattle.cred_model.specs.State.{Hold}
use Rattle.cred_machine.proofs.Refusals.{prepare_busy}
use Rattle.cred_machine.proofs.Leads.{busy_at, can_prepare, prepare_full, prepare_leads}
use Rattle.cred_sound.proofs.References.{found_stands}
use Rattle.cred_machine.specs.Slots.{is_marked}
use Rattle.cred_machine.proofs.Seen.{found_in, seen_state}
use Rattle.cred_machine.proofs.StillLive.{known_prepared}
use Rattle.cred_machine.proofs.state.State.prepare.Goals as goal

pub returns-in-Some-clause-ok : goal.returns-in-Some-clause-ok
returns-in-Some-clause-ok c =
    let s = seen_state c.self.inside in
    rw (← c.self.view_is)
    (prepare_busy s c.args.label c.args.task c.args.hold (Busy c.in-Some.broadcast) (sym c.alive.ensures ∙ c.if-not-alive.false)
    (busy_at s _ c.args.task _ c.deref.ensures.value c.in-Some.ensures))

pub returns-in_default-slot-clause-ok : goal.returns-in_default-slot-clause-ok
returns-in_default-slot-clause-ok c =
    let s = seen_state c.self.inside in
    let held : Hold = record { label = c.held.inside.label; number = c.held.inside.number } in
    let can = can_prepare s c.args.label c.args.task c.args.hold held _ _ _ c.alive.result c.has_label.result c.alive.ensures c.if-not-alive.false
    c.deref.ensures.value c.in_default.ensures c.deref-2.ensures.value c.in-Some-hold_of.ensures c.held.view_is
    (rw (← c.self.view_is) at c.has_label.ensures) c.if-has_label.false (search rules) in
    rw (c.table_full.ensures.answer, c.table_full.ensures.state, ← c.self.view_is)
    (prepare_full s c.args.label c.args.task c.args.hold held can (rw (← c.self.view_is) at (sym c.in_ok-slot.ensures.slot ∙ c.in_default-slot.is)))

pub returns-clause-ok : goal.returns-clause-ok
returns-clause-ok c =
    let s = seen_state c.self.inside in
    let held : Hold = record { label = c.held.inside.label; number = c.held.inside.number } in
    let can = can_prepare s c.args.label c.args.task c.args.hold held _ _ _ c.alive.result c.has_label.result c.alive.ensures c.if-not-alive.false
    c.deref.ensures.value c.in_default.ensures c.deref-2.ensures.value c.in-Some-hold_of.ensures c.held.view_is
    (rw (← c.self.view_is) at c.has_label.ensures) c.if-has_label.false (search rules) in
    rw (← c.self.view_is)
    (prepare_leads s c.args.label c.args.task c.args.hold held can c.in_ok-slot.field-0.swept c.in-Some-slot.slot _ _
    (rw (← c.self.view_is) at (sym c.in_ok-slot.ensures.slot ∙ c.in-Some-slot.is)) (rw (← c.self.view_is) at c.in_ok-slot.ensures.swept)
    c.in_ok-push.ensures.items c.sweep_if.ensures.items)

pub returns-clause-live : goal.returns-clause-live
returns-clause-live c =
    let s = seen_state c.self.inside in
    let held : Hold = record { label = c.held.inside.label; number = c.held.inside.number } in
    known_prepared s (record { label = c.args.label; task = c.args.task; base = held.number; slot = c.in-Some-slot.slot; changed = None }) _ _
    c.room_in.new.live c.in_ok-slot.field-0.swept c.after_call.result
    (λ k h.
    ap (λ (marks : List Bool). is_marked marks k) c.room_in.ensures.marks
    ∙ (rw (← c.self.view_is) at c.in_ok-marks.ensures) k h)
    (found_stands s c.args.hold held
    (found_in (λ (h : Hold). h.label == c.args.hold) s.holds _ held _ c.deref-2.ensures.value c.in-Some-hold_of.ensures c.held.view_is))
    c.in_ok-push.ensures.items c.sweep_if.ensures.items c.after_call.ensures
