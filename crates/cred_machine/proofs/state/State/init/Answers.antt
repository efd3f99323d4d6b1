use Rattle.std.proofs.Common.{List, ◌++◌, ◌∷◌, [], refl, sym, ap, ◌∙◌}
use Rattle.cred_model.specs.State.{Task, SealedCred, ProcessFlag}
use Rattle.cred_model.specs.Dumpable.{flags_begun}
use Rattle.cred_sound.specs.Sound.{IsSound}
use Rattle.cred_model.proofs.Places.{none_by_test}
use Rattle.cred_machine.proofs.Leads.{idle_in, init_leads, not_full}
use Rattle.cred_machine.proofs.Seen.{seen_state}
use Rattle.cred_machine.proofs.Unchanged.{on_err}
use Rattle.cred_machine.proofs.state.State.init.Goals as goal

pub returns-clause-ok : goal.returns-clause-ok
returns-clause-ok c =
    let s = seen_state c.self.inside in
    rw (← c.self.view_is)
    (init_leads s c.args.number c.args.process _ _ c.args.ns _ c.next_number-next.result c.in-Some-slot.slot c.in_ok-slot.field-0.swept _ _ _ _ _ _
    (idle_in s _ c.args.process _ c.deref.ensures.value c.in_default.ensures) (none_by_test _ c.alive.result c.alive.ensures c.if-alive.false)
    (not_full _ c.full.result c.full.ensures c.if-full.false)
    (rw (← c.self.view_is) at (sym c.in_ok-slot.ensures.slot ∙ c.in-Some-slot.is)) (rw (← c.self.view_is) at c.in_ok-slot.ensures.swept)
    c.next_number-next.ensures c.in_ok-reserve.ensures.list c.in_ok-cred.ensures
    (c.in_ok-enter.ensures.tasks ∙ ap (λ (n : Task). s.tasks ++ n ∷ []) c.first-task.ensures)
    c.seal.ensures.sealed
    c.sweep_if.ensures.items
    (c.in_ok-enter.ensures.flags ∙ ap (λ (n : Task). flags_begun s n.process) c.first-task.ensures))

pub enter-requires-clause-own : goal.enter-requires-clause-own
enter-requires-clause-own c =
    let s = seen_state c.self.inside in
    let sound : IsSound s = rw (← c.self.view_is) at c.requires.sound in
    sound.flags.own c.first-task.result.process

pub returns-in_err-cred-clause-err : goal.returns-in_err-cred-clause-err
returns-in_err-cred-clause-err c =
    let s = seen_state c.self.inside in
    rw (← c.self.view_is) (on_err _ (ap (λ (l : List SealedCred). record s { creds = l }) c.in_ok-reserve.ensures.list))

pub returns-in_err-slot-clause-err : goal.returns-in_err-slot-clause-err
returns-in_err-slot-clause-err c = on_err _ refl

pub returns-in_err-reserve-clause-err : goal.returns-in_err-reserve-clause-err
returns-in_err-reserve-clause-err c =
    let s = seen_state c.self.inside in
    rw (← c.self.view_is) (on_err _ (ap (λ (l : List SealedCred). record s { creds = l }) c.in_err-reserve.ensures.list))

pub returns-in_err-enter-clause-err : goal.returns-in_err-enter-clause-err
returns-in_err-enter-clause-err c =
    let s = seen_state c.self.inside in
    rw (← c.self.view_is)
    (on_err _
    (ap (λ (l : List Task). record s { tasks = l; creds = c.reserve.new.self.list; dumpable = c.enter.new.flags }) c.in_err-enter.ensures.same_tasks
    ∙ ap (λ (l : List ProcessFlag). record s { creds = c.reserve.new.self.list; dumpable = l }) c.in_err-enter.ensures.same_flags
    ∙ ap (λ (l : List SealedCred). record s { creds = l }) c.in_ok-reserve.ensures.list))
