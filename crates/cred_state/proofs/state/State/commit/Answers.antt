use Rattle.std.proofs.Common.{refl, ap, ◌∙◌}
use Rattle.cred_model.specs.LabelEvents.{is_access}
use Rattle.cred_tables.proofs.Owners.{owner_of, own_owner, over_owner}
use Rattle.cred_state.proofs.Seen.{seen_state}
use Rattle.cred_state.proofs.Commits.{commit_none, commit_no_task, commit_busy, commit_overridden, commit_stale}
use Rattle.cred_state.proofs.state.State.commit.Goals as goal

pub returns-in_default-clause-ok : goal.returns-in_default-clause-ok
returns-in_default-clause-ok c = rw (← c.self.view_is) (commit_none _ c.args.label c.in_default.ensures)

pub returns-in_default-current-clause-ok : goal.returns-in_default-current-clause-ok
returns-in_default-current-clause-ok c =
    let ready = c.in-Some.ensures in
    rw (← c.self.view_is) (commit_no_task _ c.args.label _ ready.last ready.found refl (ap is_access ready.by ∙ ready.for_task) c.in_default-current.ensures)

pub returns-in-Some-begun-clause-ok : goal.returns-in-Some-begun-clause-ok
returns-in-Some-begun-clause-ok c =
    let ready = c.in-Some.ensures in
    let busy = rw (← c.self.view_is) at c.in-Some-begun.ensures in
    let t = c.self.inside in
    let s = seen_state t in
    rw (← c.self.view_is)
    (let own = owner_of s c.in-Some.field-0.task c.in-Some-current.now c.in-Some-current.ensures in
    commit_busy s c.args.label _ ready.last ready.found refl (ap is_access ready.by ∙ ready.for_task) c.in-Some-begun.broadcast own.0 own.1 busy)

pub returns-in-Some-overridden-clause-ok : goal.returns-in-Some-overridden-clause-ok
returns-in-Some-overridden-clause-ok c =
    let ready = c.in-Some.ensures in
    let over = rw (← c.self.view_is) at c.in-Some-overridden.ensures in
    let idle = rw (← c.self.view_is) at c.in_default-begun.ensures in
    let t = c.self.inside in
    let s = seen_state t in
    rw (← c.self.view_is)
    (let own = owner_of s c.in-Some.field-0.task c.in-Some-current.now c.in-Some-current.ensures in
    commit_overridden s c.args.label _ ready.last ready.found refl (ap is_access ready.by ∙ ready.for_task) c.in-Some-overridden.depth own.0 own.1 idle
    (over_owner s c.in-Some.field-0.task c.in-Some-overridden.depth own.0 own.1 over))

pub returns-then-now-base-clause-ok : goal.returns-then-now-base-clause-ok
returns-then-now-base-clause-ok c =
    let ready = c.in-Some.ensures in
    let allowed = rw (← c.self.view_is) at c.in_default-overridden.ensures in
    let idle = rw (← c.self.view_is) at c.in_default-begun.ensures in
    let aborts = rw (← c.self.view_is) at c.abort.ensures.made in
    let t = c.self.inside in
    let s = seen_state t in
    rw (← c.self.view_is)
    (let own = owner_of s c.in-Some.field-0.task c.in-Some-current.now c.in-Some-current.ensures in
    commit_stale s c.args.label _ ready.last ready.found refl (ap is_access ready.by ∙ ready.for_task) c.abort.new.self.state c.abort.result
    c.in-Some-current.now own.0 own.1 own.2 idle
    (own_owner s c.in-Some.field-0.task own.0 own.1 allowed) c.if-now-base.true aborts)

pub commit_ready-requires-clause-ready : goal.commit_ready-requires-clause-ready
commit_ready-requires-clause-ready c =
    rw (c.changes_ids-ids_changed.ensures.same, ← c.self.view_is, c.if-now-base.false) c.in-Some.ensures

pub commit_ready-requires-clause-home : goal.commit_ready-requires-clause-home
commit_ready-requires-clause-home c = rw c.changes_ids-ids_changed.ensures.same c.requires.home

pub commit_ready-requires-clause-current : goal.commit_ready-requires-clause-current
commit_ready-requires-clause-current c =
    rw (c.changes_ids-ids_changed.ensures.same, ← c.self.view_is) c.in-Some-current.ensures

pub commit_ready-requires-clause-idle : goal.commit_ready-requires-clause-idle
commit_ready-requires-clause-idle c =
    rw c.changes_ids-ids_changed.ensures.same c.in_default-begun.ensures

pub commit_ready-requires-clause-allowed : goal.commit_ready-requires-clause-allowed
commit_ready-requires-clause-allowed c =
    rw c.changes_ids-ids_changed.ensures.same c.in_default-overridden.ensures

pub commit_ready-requires-clause-ids_changed : goal.commit_ready-requires-clause-ids_changed
commit_ready-requires-clause-ids_changed c =
    rw c.changes_ids-ids_changed.ensures.same c.changes_ids-ids_changed.ensures.ids_changed
