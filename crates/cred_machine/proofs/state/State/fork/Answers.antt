use Rattle.std.proofs.Common.{List, ◌++◌, ◌∷◌, [], sym, ap, ◌∙◌}
use Rattle.cred_event.specs.declared.answer.Answer.TheVariants.{Busy, Overridden}
use Rattle.cred_model.specs.State.{Task, ProcessFlag}
use Rattle.cred_model.specs.Dumpable.{flag_in, with_process_flag}
use Rattle.cred_sound.specs.Sound.{IsSound}
use Rattle.cred_plain.specs.Creds.{seen_numbered}
use Rattle.cred_model.proofs.Places.{none_by_test}
use Rattle.cred_plain.proofs.Places.{none_is}
use Rattle.cred_machine.proofs.Refusals.{fork_busy, fork_exists, fork_full, fork_none, fork_overridden, fork_unsealed, fork_used, is_full}
use Rattle.cred_machine.proofs.Leads.{busy_at, can_create, fork_leads}
use Rattle.cred_machine.proofs.Unflagged.{unflagged}
use Rattle.cred_machine.proofs.Unchanged.{on_err}
use Rattle.cred_machine.proofs.Seen.{seen_state, seen_task}
use Rattle.cred_machine.proofs.state.State.fork.Goals as goal

pub returns-in-Some-begun_by-clause-ok : goal.returns-in-Some-begun_by-clause-ok
returns-in-Some-begun_by-clause-ok c =
    let s = seen_state c.self.inside in
    let o = seen_task c.owner.inside in
    rw (← c.self.view_is)
    (fork_busy s c.args.task c.args.child c.args.process o (seen_numbered c.in-Some-get.field-0) (rw (← c.owner.view_is) at (sym c.in-Some.ensures))
    (sym c.in-Some-get.ensures) (Busy c.in-Some-begun_by.broadcast) (busy_at s _ c.args.task _ c.deref.ensures.value c.in-Some-begun_by.ensures))

pub returns-then-has_process-clause-ok : goal.returns-then-has_process-clause-ok
returns-then-has_process-clause-ok c =
    let s = seen_state c.self.inside in
    let o = seen_task c.owner.inside in
    rw (← c.self.view_is)
    (fork_used s c.args.task c.args.child c.args.process o (seen_numbered c.in-Some-get.field-0) (rw (← c.owner.view_is) at (sym c.in-Some.ensures))
    (sym c.in-Some-get.ensures) (busy_at s _ c.args.task _ c.deref.ensures.value c.in_default-begun_by.ensures)
    (none_by_test _ c.alive.result c.alive.ensures c.if-alive.false) (sym c.has_process.ensures ∙ c.if-has_process.true))

pub returns-in-Some-overridden-clause-ok : goal.returns-in-Some-overridden-clause-ok
returns-in-Some-overridden-clause-ok c =
    let s = seen_state c.self.inside in
    let o = seen_task c.owner.inside in
    rw (← c.self.view_is)
    (fork_overridden s c.args.task c.args.child c.args.process o (seen_numbered c.in-Some-get.field-0) (rw (← c.owner.view_is) at (sym c.in-Some.ensures))
    (sym c.in-Some-get.ensures) (busy_at s _ c.args.task _ c.deref.ensures.value c.in_default-begun_by.ensures)
    (none_by_test _ c.alive.result c.alive.ensures c.if-alive.false) (Overridden c.in-Some-overridden.depth)
    (none_by_test _ c.has_process.result c.has_process.ensures c.if-has_process.false) (rw (← c.owner.view_is) at c.in-Some-overridden.ensures))

pub returns-clause-ok : goal.returns-clause-ok
returns-clause-ok c =
    let s = seen_state c.self.inside in
    let o = seen_task c.owner.inside in
    let parent = seen_numbered c.in-Some-get.field-0 in
    let can = can_create s c.args.task c.args.child o _ parent _ c.alive.result c.full.result c.in-Some.ensures c.owner.view_is c.in-Some-get.ensures
    c.deref.ensures.value c.in_default-begun_by.ensures c.alive.ensures c.if-alive.false c.in_default-overridden.ensures c.full.ensures c.if-full.false in
    rw (← c.self.view_is)
    (fork_leads s c.args.task c.args.child c.args.process o parent _ _ c.is_dumpable-dumpable.result can
    (none_by_test _ c.has_process.result c.has_process.ensures c.if-has_process.false)
    (c.in_ok-begin_process.ensures.tasks ∙ ap (λ (n : Task). s.tasks ++ n ∷ []) c.first-thread.ensures)
    (c.in_ok-begin_process.ensures.flags ∙ ap (λ (n : Task). with_process_flag s.dumpable n.process c.is_dumpable-dumpable.result) c.first-thread.ensures)
    c.is_dumpable-dumpable.ensures)

pub begin_process-requires-clause-unused : goal.begin_process-requires-clause-unused
begin_process-requires-clause-unused c =
    let s = seen_state c.self.inside in
    let sound : IsSound s = rw (← c.self.view_is) at c.requires.sound in
    ap (λ (n : Task). flag_in s.dumpable n.process) c.first-thread.ensures
    ∙ unflagged s c.args.process sound (none_by_test _ c.has_process.result c.has_process.ensures c.if-has_process.false)

pub returns-in_err-begin_process-clause-err : goal.returns-in_err-begin_process-clause-err
returns-in_err-begin_process-clause-err c =
    let s = seen_state c.self.inside in
    rw (← c.self.view_is)
    (on_err _
    (ap (λ (l : List Task). record s { tasks = l; dumpable = c.begin_process.new.flags }) c.in_err-begin_process.ensures.same_tasks
    ∙ ap (λ (l : List ProcessFlag). record s { dumpable = l }) c.in_err-begin_process.ensures.same_flags))

pub returns-in_default-clause-ok : goal.returns-in_default-clause-ok
returns-in_default-clause-ok c =
    let s = seen_state c.self.inside in
    rw (← c.self.view_is)
    (fork_none s c.args.task c.args.child c.args.process (none_is (λ t. t.now) c.get.result _ c.get.ensures c.in_default.is))

pub returns-in_default-get-clause-ok : goal.returns-in_default-get-clause-ok
returns-in_default-get-clause-ok c =
    let s = seen_state c.self.inside in
    let o = seen_task c.owner.inside in
    rw (← c.self.view_is)
    (fork_unsealed s c.args.task c.args.child c.args.process o (rw (← c.owner.view_is) at (sym c.in-Some.ensures))
    (none_is seen_numbered c.get-2.result _ c.get-2.ensures c.in_default-get.is))

pub returns-then-alive-clause-ok : goal.returns-then-alive-clause-ok
returns-then-alive-clause-ok c =
    let s = seen_state c.self.inside in
    let o = seen_task c.owner.inside in
    rw (← c.self.view_is)
    (fork_exists s c.args.task c.args.child c.args.process o (seen_numbered c.in-Some-get.field-0) (rw (← c.owner.view_is) at (sym c.in-Some.ensures))
    (sym c.in-Some-get.ensures)
    (busy_at s _ c.args.task _ c.deref.ensures.value c.in_default-begun_by.ensures) (sym c.alive.ensures ∙ c.if-alive.true))

pub returns-then-full-clause-ok : goal.returns-then-full-clause-ok
returns-then-full-clause-ok c =
    let s = seen_state c.self.inside in
    let o = seen_task c.owner.inside in
    rw (← c.self.view_is)
    (fork_full s c.args.task c.args.child c.args.process o (seen_numbered c.in-Some-get.field-0) (rw (← c.owner.view_is) at (sym c.in-Some.ensures))
    (sym c.in-Some-get.ensures)
    (busy_at s _ c.args.task _ c.deref.ensures.value c.in_default-begun_by.ensures) (none_by_test _ c.alive.result c.alive.ensures c.if-alive.false)
    (none_by_test _ c.has_process.result c.has_process.ensures c.if-has_process.false) (rw (← c.owner.view_is) at c.in_default-overridden.ensures)
    (is_full _ c.full.result c.full.ensures c.if-full.true))
