use Rattle.std.proofs.Common.{Bool, List, ap, sym, ◌∙◌}
use Rattle.cred_model.specs.Moves.{table_full}
use Rattle.cred_model.specs.State.{Broadcast}
use Rattle.cred_machine.specs.Room.{begun}
use Rattle.cred_machine.proofs.Begins.{opens}
use Rattle.cred_machine.proofs.Rooms.{in_none}
use Rattle.cred_machine.proofs.Seen.{seen_broadcast, seen_state}
use Rattle.cred_machine.proofs.Unchanged.{on_err}
use Rattle.cred_machine.specs.Slots.{is_marked}
use Rattle.cred_machine.proofs.Live.{known_opened}
use Rattle.cred_machine.proofs.state.State.open.Goals as goal

pub returns-in_default-clause-ok : goal.returns-in_default-clause-ok
returns-in_default-clause-ok c =
    rw (c.table_full.ensures.answer, c.table_full.ensures.state, ← c.self.view_is)
    (in_none (seen_state c.self.inside) table_full (λ r at. begun r c.args.broadcast c.args.old c.args.cred c.args.ids_changed at)
    (rw (← c.self.view_is) at (sym c.in_ok-slot.ensures.slot ∙ c.in_default.is)))

pub returns-in_err-open_broadcast-clause-err : goal.returns-in_err-open_broadcast-clause-err
returns-in_err-open_broadcast-clause-err c =
    let s = seen_state c.self.inside in
    rw (← c.self.view_is) (on_err _ (ap (λ (l : List Broadcast). record s { broadcasts = l }) c.in_err-open_broadcast.ensures.err))

pub returns-clause-ok : goal.returns-clause-ok
returns-clause-ok c =
    rw (← c.self.view_is, ← c.broadcast.view_is)
    (opens (seen_state c.self.inside) (seen_broadcast c.broadcast.inside) c.args.old _ c.args.ids_changed c.in-Some.slot c.in_ok-slot.field-0.swept c.in-Ok.number
    c.waiters-left.result _
    (seen_state c.self-2.inside) _
    (rw (← c.self.view_is) at (sym c.in_ok-slot.ensures.slot ∙ c.in-Some.is)) (rw (← c.self.view_is) at c.in_ok-slot.ensures.swept)
    c.in-Ok.ensures.number (rw (← c.broadcast.view_is) at c.waiters-left.ensures) (rw (← c.broadcast.view_is) at c.in_ok-open_broadcast.ensures.ok)
    (c.self-2.view_is ∙ c.in-Ok.ensures.ok) c.renew.ensures)

pub returns-clause-live : goal.returns-clause-live
returns-clause-live c =
    known_opened (seen_state c.self.inside) (seen_state c.self-2.inside)
    (rw (← c.self.view_is) at c.requires.sound) c.broadcast.inside.caller c.args.old c.in-Some.slot
    c.args.cred c.room_in.new.live c.in_ok-slot.field-0.swept c.open_broadcast.new.broadcasts.items
    c.renew.new.self c.after_call.result
    (λ k h.
    ap (λ (marks : List Bool). is_marked marks k) c.room_in.ensures.marks
    ∙ (rw (← c.self.view_is) at c.in_ok-marks.ensures) k h)
    (rw (← c.self.view_is, ← c.broadcast.view_is) at c.requires.caller)
    (c.self-2.view_is ∙ c.in-Ok.ensures.ok)
    c.after_call.ensures
