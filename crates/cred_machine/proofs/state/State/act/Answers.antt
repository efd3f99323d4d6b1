use Rattle.std.proofs.Common.{ℕ, Option, is_some, refl, sym, ap, ◌∙◌, arith, rules, tests}
use Rattle.cred_event.specs.declared.answer.AbortCause.TheVariants.{Perm, Full}
use Rattle.cred_model.specs.State.{task_of}
use Rattle.cred_model.proofs.Places.{none_by_test}
use Rattle.cred_plain.specs.Creds.{seen_numbered}
use Rattle.cred_plain.proofs.Places.{none_is}
use Rattle.cred_machine.proofs.Acts.{act_full, act_refused, broadcast_found, broadcast_within, least_there, next_is, no_broadcast, task_is}
use Rattle.cred_machine.proofs.Begins.{rule_denied}
use Rattle.cred_machine.proofs.Follows.{aborts, act_ended, act_none, act_unawaited, act_unsealed}
use Rattle.cred_machine.proofs.Seen.{seen_broadcast, seen_state, seen_task}
use Rattle.cred_machine.proofs.Steps.{broadcasts_stay, broadcasts_still, place_within, stands_still, steps_there}
use Rattle.cred_machine.proofs.Threads.{waits_rising}
use Rattle.cred_machine.proofs.state.State.act.Goals as goal

pub returns-in_default-clause-ok : goal.returns-in_default-clause-ok
returns-in_default-clause-ok c =
    let s = seen_state c.self.inside in
    rw (← c.self.view_is)
    (act_none s c.args.line
    (no_broadcast s c.args.line _ c.broadcast_place.result c.deref.ensures.value c.broadcast_place.ensures
    c.in_default.is))

pub index-broadcast-requires : goal.index-broadcast-requires
index-broadcast-requires c =
    let s = seen_state c.self.inside in
    let within = broadcast_within c.args.line c.in-Some.broadcast_at s.broadcasts _ c.deref.ensures.value
    c.in-Some.ensures in
    omega (arith, within, c.self.inside.broadcasts.ok)

pub returns-in_default-least-clause-ok : goal.returns-in_default-least-clause-ok
returns-in_default-least-clause-ok c =
    let s = seen_state c.self.inside in
    let b = c.index-broadcast.result.now in
    let broadcast = broadcast_found s c.args.line c.in-Some.broadcast_at _ b _ c.deref.ensures.value
    c.in-Some.ensures refl c.index-broadcast.ensures in
    rw (← c.self.view_is)
    (act_unawaited s c.args.line b broadcast.0 (sym c.least.ensures ∙ c.in_default-least.is))

pub returns-in_default-place-clause-ok : goal.returns-in_default-place-clause-ok
returns-in_default-place-clause-ok c =
    let s = seen_state c.self.inside in
    let b = c.index-broadcast.result.now in
    let task = c.in-Some-least.task in
    let broadcast = broadcast_found s c.args.line c.in-Some.broadcast_at _ b _ c.deref.ensures.value
    c.in-Some.ensures refl c.index-broadcast.ensures in
    rw (← c.self.view_is)
    (act_ended s c.args.line b broadcast.0 task (sym c.in-Some-least.ensures)
    (none_by_test (task_of s task) (is_some c.place.result) c.place.ensures.alive
    (ap (λ (o : Option ℕ). is_some o) c.in_default-place.is)))

pub at-owner-requires : goal.at-owner-requires
at-owner-requires c =
    place_within c.self.inside.tasks c.in-Some-least.task c.in-Some-place.task_at
    c.in-Some-place.ensures.place

pub returns-in_default-get-clause-ok : goal.returns-in_default-get-clause-ok
returns-in_default-get-clause-ok c =
    let s = seen_state c.self.inside in
    let sound = rw (← c.self.view_is) at c.requires.sound in
    let b = c.index-broadcast.result.now in
    let task = c.in-Some-least.task in
    let o = seen_task c.owner.inside in
    let broadcast = broadcast_found s c.args.line c.in-Some.broadcast_at _ b _ c.deref.ensures.value
    c.in-Some.ensures refl c.index-broadcast.ensures in
    rw (← c.self.view_is)
    (act_unsealed s c.args.line b broadcast.0 task (sym c.in-Some-least.ensures) o
    (task_is s task c.in-Some-place.task_at o _ sound c.in-Some-place.ensures.place
    c.at-owner.ensures c.owner.view_is)
    (none_is seen_numbered c.get.result _ c.get.ensures c.in_default-get.is))

pub others-left-requires-clause-rising : goal.others-left-requires-clause-rising
others-left-requires-clause-rising c =
    let s = seen_state c.self.inside in
    let sound = rw (← c.self.view_is) at c.requires.sound in
    let b = c.index-broadcast.result.now in
    let broadcast = broadcast_found s c.args.line c.in-Some.broadcast_at _ b _ c.deref.ensures.value
    c.in-Some.ensures refl c.index-broadcast.ensures in
    waits_rising s c.args.line b sound broadcast.0

pub returns-in-Err-Perm-clause-ok : goal.returns-in-Err-Perm-clause-ok
returns-in-Err-Perm-clause-ok c =
    let s = seen_state c.self.inside in
    let sound = rw (← c.self.view_is) at c.requires.sound in
    let b = seen_broadcast c.broadcast.inside in
    let task = c.in-Some-least.task in
    let o = seen_task c.owner.inside in
    let old = seen_numbered c.in-Some-get.current in
    let broadcast = broadcast_found s c.args.line c.in-Some.broadcast_at _ b _ c.deref.ensures.value
    c.in-Some.ensures c.broadcast.view_is c.index-broadcast.ensures in
    let lives = task_is s task c.in-Some-place.task_at o _ sound c.in-Some-place.ensures.place
    c.at-owner.ensures c.owner.view_is in
    let next = next_is s c.args.line task c.in-Some.broadcast_at b _ o old broadcast c.broadcast.view_is
    c.in-Some-least.ensures lives c.in-Some-get.ensures in
    let ended = c.end_process in
    let no = rule_denied _ c.in-Err-Perm.field-0 c.in-Err-Perm.ensures (search (rules, tests)) in
    rw (← c.self.view_is)
    (aborts s ended.new.self c.args.line task Perm b ended.result
    (act_refused s c.args.line task c.in-Some.broadcast_at b o old next no.0 no.1)
    ended.ensures.answer (rw (← c.self.view_is) at ended.ensures.state))

pub returns-in_default-slot-clause-ok : goal.returns-in_default-slot-clause-ok
returns-in_default-slot-clause-ok c =
    let s = seen_state c.self.inside in
    let sound = rw (← c.self.view_is) at c.requires.sound in
    let b = seen_broadcast c.broadcast.inside in
    let task = c.in-Some-least.task in
    let o = seen_task c.owner.inside in
    let old = seen_numbered c.in-Some-get.current in
    let broadcast = broadcast_found s c.args.line c.in-Some.broadcast_at _ b _ c.deref.ensures.value
    c.in-Some.ensures c.broadcast.view_is c.index-broadcast.ensures in
    let lives = task_is s task c.in-Some-place.task_at o _ sound c.in-Some-place.ensures.place
    c.at-owner.ensures c.owner.view_is in
    let next = next_is s c.args.line task c.in-Some.broadcast_at b _ o old broadcast c.broadcast.view_is
    c.in-Some-least.ensures lives c.in-Some-get.ensures in
    let ended = c.end_process-in_default-slot in
    rw (← c.self.view_is)
    (aborts s ended.new.self c.args.line task Full b ended.result
    (act_full s c.args.line task c.in-Some.broadcast_at b o old next c.in-Ok.cred c.in-Ok.ensures
    (rw (← c.self.view_is) at (sym c.requires.slot ∙ c.in_default-slot.is)))
    ended.ensures.answer (rw (← c.self.view_is) at ended.ensures.state))

pub set_current_at-requires : goal.set_current_at-requires
set_current_at-requires c =
    let s = seen_state c.self.inside in
    let sound = rw (← c.self.view_is) at c.requires.sound in
    let task = c.in-Some-least.task in
    let after = seen_state c.self-2.inside in
    let leads = c.self-2.view_is ∙ (rw (← c.self.view_is) at c.in_ok-cred.ensures.ok) in
    place_within after.tasks task c.in-Some-place.task_at
    (stands_still s c.in-Some-get.current.number c.in-Ok.cred c.in-Some-slot.slot sound
    c.args.room.swept after leads task c.in-Some-place.task_at c.in-Some-place.ensures.place)

pub act-requires-clause-broadcasts : goal.act-requires-clause-broadcasts
act-requires-clause-broadcasts c =
    let s = seen_state c.self.inside in
    let sound = rw (← c.self.view_is) at c.requires.sound in
    let leads = c.self-2.view_is ∙ (rw (← c.self.view_is) at c.in_ok-cred.ensures.ok) in
    broadcasts_still s c.in-Some-get.current.number c.in-Ok.cred c.in-Some-slot.slot sound
    c.args.room.swept (seen_state c.self-2.inside) leads

pub act-requires-clause-least : goal.act-requires-clause-least
act-requires-clause-least c =
    let s = seen_state c.self.inside in
    let sound = rw (← c.self.view_is) at c.requires.sound in
    let b = seen_broadcast c.broadcast.inside in
    let task = c.in-Some-least.task in
    let o = seen_task c.owner.inside in
    let old = seen_numbered c.in-Some-get.current in
    let broadcast = broadcast_found s c.args.line c.in-Some.broadcast_at _ b _ c.deref.ensures.value
    c.in-Some.ensures c.broadcast.view_is c.index-broadcast.ensures in
    let lives = task_is s task c.in-Some-place.task_at o _ sound c.in-Some-place.ensures.place
    c.at-owner.ensures c.owner.view_is in
    let next = next_is s c.args.line task c.in-Some.broadcast_at b _ o old broadcast c.broadcast.view_is
    c.in-Some-least.ensures lives c.in-Some-get.ensures in
    let after = seen_state c.self-2.inside in
    let leads = c.self-2.view_is ∙ (rw (← c.self.view_is) at c.in_ok-cred.ensures.ok) in
    least_there s c.args.line task c.in-Some.broadcast_at b o old next after.broadcasts
    (broadcasts_stay s old.number c.in-Ok.cred c.in-Some-slot.slot c.args.room.swept after leads)

pub returns-clause-ok : goal.returns-clause-ok
returns-clause-ok c =
    let s = seen_state c.self.inside in
    let sound = rw (← c.self.view_is) at c.requires.sound in
    let b = seen_broadcast c.broadcast.inside in
    let task = c.in-Some-least.task in
    let o = seen_task c.owner.inside in
    let old = seen_numbered c.in-Some-get.current in
    let broadcast = broadcast_found s c.args.line c.in-Some.broadcast_at _ b _ c.deref.ensures.value
    c.in-Some.ensures c.broadcast.view_is c.index-broadcast.ensures in
    let lives = task_is s task c.in-Some-place.task_at o _ sound c.in-Some-place.ensures.place
    c.at-owner.ensures c.owner.view_is in
    let next = next_is s c.args.line task c.in-Some.broadcast_at b _ o old broadcast c.broadcast.view_is
    c.in-Some-least.ensures lives c.in-Some-get.ensures in
    let leads = c.self-2.view_is ∙ (rw (← c.self.view_is) at c.in_ok-cred.ensures.ok) in
    rw (← c.self.view_is)
    (steps_there s sound c.args.line task c.in-Some.broadcast_at b o old next c.in-Ok.cred
    c.in-Ok.ensures (seen_state c.self-2.inside) c.set_current_at.new.self
    c.act.new.broadcasts.items _ c.differs-ids_changed.result c.args.room.swept c.in-Some-slot.slot
    c.others-left.result c.in_ok-cred.cred c.in-Some-place.task_at
    (rw (← c.self.view_is) at (sym c.requires.slot ∙ c.in-Some-slot.is))
    (rw (← c.self.view_is) at c.requires.swept)
    (rw (← c.broadcast.view_is) at c.others-left.ensures)
    (rw (← c.self.view_is) at c.in_ok-cred.ensures.number)
    c.in-Some-place.ensures.place leads c.set_current_at.ensures c.act.ensures
    c.differs-ids_changed.ensures c.renew.ensures)
