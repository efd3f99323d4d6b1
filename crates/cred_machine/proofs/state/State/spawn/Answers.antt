use Rattle.std.proofs.Common.{◌++◌, ◌∷◌, [], sym, ap, ◌∙◌}
use Rattle.cred_event.specs.declared.answer.Answer.TheVariants.{Busy, Overridden}
use Rattle.cred_model.specs.State.{Task}
use Rattle.cred_plain.specs.Creds.{seen_numbered}
use Rattle.cred_model.proofs.Places.{none_by_test}
use Rattle.cred_plain.proofs.Places.{none_is}
use Rattle.cred_machine.proofs.Refusals.{is_full, spawn_busy, spawn_exists, spawn_full, spawn_none, spawn_overridden, spawn_unsealed}
use Rattle.cred_machine.proofs.Threads.{shares_none}
use Rattle.cred_machine.proofs.Leads.{busy_at, can_create, spawn_leads}
use Rattle.cred_machine.proofs.Seen.{seen_state, seen_task}
use Rattle.cred_machine.proofs.state.State.spawn.Goals as goal

pub returns-in-Some-begun_by-clause-ok : goal.returns-in-Some-begun_by-clause-ok
returns-in-Some-begun_by-clause-ok c =
    let s = seen_state c.self.inside in
    let o = seen_task c.owner.inside in
    rw (← c.self.view_is)
    (spawn_busy s c.args.task c.args.child 0 o (seen_numbered c.in-Some-get.field-0) (rw (← c.owner.view_is) at (sym c.in-Some.ensures))
    (sym c.in-Some-get.ensures) (Busy c.in-Some-begun_by.broadcast) (busy_at s _ c.args.task _ c.deref.ensures.value c.in-Some-begun_by.ensures))

pub join-requires : goal.join-requires
join-requires c =
    let s = seen_state c.self.inside in
    shares_none s (rw (← c.self.view_is) at c.requires)

pub returns-clause-ok : goal.returns-clause-ok
returns-clause-ok c =
    let s = seen_state c.self.inside in
    let o = seen_task c.owner.inside in
    let parent = seen_numbered c.in-Some-get.field-0 in
    let can = can_create s c.args.task c.args.child o _ parent _ c.alive.result c.full.result c.in-Some.ensures c.owner.view_is c.in-Some-get.ensures
    c.deref.ensures.value c.in_default-begun_by.ensures c.alive.ensures c.if-alive.false c.in_default-overridden.ensures c.full.ensures c.if-full.false in
    rw (← c.self.view_is)
    (spawn_leads s c.args.task c.args.child o parent _ _ can
    (c.in_ok-push.ensures.ok ∙ ap (λ (n : Task). s.tasks ++ n ∷ []) c.first-thread.ensures) c.in_default-join.ensures.ok)

pub returns-in_default-clause-ok : goal.returns-in_default-clause-ok
returns-in_default-clause-ok c =
    let s = seen_state c.self.inside in
    rw (← c.self.view_is)
    (spawn_none s c.args.task c.args.child 0 (none_is (λ t. t.now) c.get.result _ c.get.ensures c.in_default.is))

pub returns-in_default-get-clause-ok : goal.returns-in_default-get-clause-ok
returns-in_default-get-clause-ok c =
    let s = seen_state c.self.inside in
    let o = seen_task c.owner.inside in
    rw (← c.self.view_is)
    (spawn_unsealed s c.args.task c.args.child 0 o (rw (← c.owner.view_is) at (sym c.in-Some.ensures))
    (none_is seen_numbered c.get-2.result _ c.get-2.ensures c.in_default-get.is))

pub returns-then-alive-clause-ok : goal.returns-then-alive-clause-ok
returns-then-alive-clause-ok c =
    let s = seen_state c.self.inside in
    let o = seen_task c.owner.inside in
    rw (← c.self.view_is)
    (spawn_exists s c.args.task c.args.child 0 o (seen_numbered c.in-Some-get.field-0) (rw (← c.owner.view_is) at (sym c.in-Some.ensures))
    (sym c.in-Some-get.ensures)
    (busy_at s _ c.args.task _ c.deref.ensures.value c.in_default-begun_by.ensures) (sym c.alive.ensures ∙ c.if-alive.true))

pub returns-in-Some-overridden-clause-ok : goal.returns-in-Some-overridden-clause-ok
returns-in-Some-overridden-clause-ok c =
    let s = seen_state c.self.inside in
    let o = seen_task c.owner.inside in
    rw (← c.self.view_is)
    (spawn_overridden s c.args.task c.args.child 0 o (seen_numbered c.in-Some-get.field-0) (rw (← c.owner.view_is) at (sym c.in-Some.ensures))
    (sym c.in-Some-get.ensures)
    (busy_at s _ c.args.task _ c.deref.ensures.value c.in_default-begun_by.ensures) (none_by_test _ c.alive.result c.alive.ensures c.if-alive.false)
    (Overridden c.in-Some-overridden.depth) (rw (← c.owner.view_is) at c.in-Some-overridden.ensures))

pub returns-then-full-clause-ok : goal.returns-then-full-clause-ok
returns-then-full-clause-ok c =
    let s = seen_state c.self.inside in
    let o = seen_task c.owner.inside in
    rw (← c.self.view_is)
    (spawn_full s c.args.task c.args.child 0 o (seen_numbered c.in-Some-get.field-0) (rw (← c.owner.view_is) at (sym c.in-Some.ensures))
    (sym c.in-Some-get.ensures)
    (busy_at s _ c.args.task _ c.deref.ensures.value c.in_default-begun_by.ensures) (none_by_test _ c.alive.result c.alive.ensures c.if-alive.false)
    (rw (← c.owner.view_is) at c.in_default-overridden.ensures)
    (is_full _ c.full.result c.full.ensures c.if-full.true))
