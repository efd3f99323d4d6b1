-- What the calls of a task change: those that set ids, and those by which tasks are created and
-- end.
use Rattle.std.proofs.Common.{◌≡◌, ◌-◌, ℕ, List, [], ◌∷◌, ◌++◌, length, slice_get, Some, Result, Ok, Err, Bool, false, refl, sym, ap, ◌∙◌}
use Rattle.std.specs.List.{All, Contains, find}
use Rattle.std.specs.Option.{option_and_then}
use Rattle.std.proofs.lemmas.List.Elements.{All-contains_itself}
use Rattle.cred_ids.specs.Limits.{TASKS}
use Rattle.cred_record.specs.Credential.{Credential}
use Rattle.cred_record.specs.declared.id_call.IdCall.{IdCall}
use Rattle.cred_record.specs.declared.refusal.Denial.{Denial}
use Rattle.cred_rules.specs.SetId.{set_id}
use Rattle.cred_event.specs.declared.event.Event.TheVariants.{Begin, Act, Spawn, Fork, Exit, Raw}
use Rattle.cred_event.specs.declared.answer.Answer.TheVariants.{Done, Sealed, Began, Acted, TableFull, Aborted}
use Rattle.cred_event.specs.declared.answer.AbortCause.{AbortCause}
use Rattle.cred_event.specs.declared.answer.AbortCause.TheVariants as cause
use Rattle.cred_model.specs.Script.{Script}
use Rattle.cred_model.specs.State.{State, Task, Broadcast, Numbered, numbered, task_of, broadcast_of, broadcast_in, begun_by, current_of}
use Rattle.cred_model.specs.Slots.{refs}
use Rattle.cred_model.specs.Change.{by_rule}
use Rattle.cred_model.specs.Ends.{is_task, is_thread_of, survivors, ended}
use Rattle.cred_model.specs.Dumpable.{is_dumpable, with_process_flag, without_flag, differs, renewed, flags_left}
use Rattle.cred_model.specs.Broadcasts.{others_of, with_broadcast, waits_no_more, joined, dropped}
use Rattle.cred_model.specs.Moves.{table_full, with_current, first_task, replaced}
use Rattle.cred_model.specs.CallEvents.{aborted, follow}
use Rattle.cred_model.specs.Step.{step}
use Rattle.cred_model.proofs.Numbers.{owner_number}
use Rattle.cred_model.proofs.Referred.{all_survive, each_ended}
use Rattle.cred_sound.proofs.References.{own_refs, current_stands}
use Rattle.cred_sound.proofs.Tests.{outcome_has, if_some, if_none, if_fewer, if_idle, if_own, if_rule, in_slots}
use Rattle.cred_sound.proofs.Parts.{with_left, Changes, OfCall, ByBegin, ByAct, ByRaw, BySpawn, ByFork, ByExit, ByAbort, Shares, Renews, Fewer}
use Rattle.cred_sound.proofs.OnePart.{still_left, gives_up, still, refused, with_tasks, only_tasks}

-- what the tasks that end referred to
pub ended_stay : (s : State) (ends : Task → Bool) → All (Contains (refs s)) (ended ends s).deferred
ended_stay s ends = (each_ended (own_refs s) ends).deferred

-- the credential of the owner's number is its current one
pub own_is : (s : State) (task : ℕ) (owner : Task) (own : Numbered) → task_of s task ≡ Some owner → numbered s.creds owner.current ≡ Some own
    → current_of s task ≡ Some own
own_is s task owner own found at = ap (option_and_then (λ (t : Task). numbered s.creds t.current)) found ∙ at

-- the task's credential is replaced, and no task ends
renewed_all : (s : State) (task : ℕ) → with_current s.tasks task (length s.creds) ≡ with_current (survivors (λ t. false) s.tasks) task (length s.creds)
renewed_all s task = ap (λ tasks. with_current tasks task (length s.creds)) (sym (all_survive s.tasks))

pub begin_changes : (script : Script) (s : State) (line task : ℕ) (call : IdCall)
    → Changes script s (Begin task call) (step script s line (Begin task call))
begin_changes script s line task call =
    let event = Begin task call in
    let Q = Changes script s event in
    outcome_has Q s _ (refused script s event)
    (if_some Q (task_of s task) _ _
    (λ owner found. if_some Q (numbered s.creds owner.current) _ _
    (λ old at. if_idle Q (broadcast_in s owner.process) _
    (λ idle. if_none Q (broadcast_of s line) _ _
    (λ unused. if_own Q owner _
    (if_rule Q (set_id old.cred call) _
    (λ new ruled.
    let others = others_of owner s.tasks in
    let by : ℕ → Broadcast = λ caller. record { number = line; process = owner.process; caller = caller; call = call; waiting = others } in
    in_slots Q s table_full
    (λ s slot. (
      Began (length s.creds) slot (length others),
      record (replaced s task old.number new slot) {
        broadcasts = with_broadcast s.broadcasts (by task);
        dumpable = renewed s.dumpable owner.process (differs old.cred new);
      },
    ))
    (still script s event TableFull)
    (λ left slot fewer free.
    let is = own_is s task owner old found at in
    with_tasks script s event (Began (length s.creds) slot (length others)) left (with_current s.tasks task (length s.creds))
    (with_broadcast s.broadcasts (by task)) (renewed s.dumpable owner.process (differs old.cred new)) new slot (left ++ old.number ∷ []) fewer free
    (OfCall task old call is ruled)
    (Renews task slot owner new (λ t. false) (renewed_all s task) refl found
    (ByBegin call old line slot refl is ruled unused idle refl
    (ap (λ caller. with_broadcast s.broadcasts (by caller)) (sym (owner_number s task owner found))) refl refl))
    (gives_up (with_left s left) old.number (current_stands (with_left s left) task old is))))))))))

-- all threads of the process end
process_ends : (script : Script) (s : State) (number task : ℕ) (cause : AbortCause) (broadcast : Broadcast) (left : List ℕ)
    → All (Contains s.deferred) left → Changes script s (Act number) (Aborted task cause, aborted broadcast (with_left s left))
process_ends script s number task cause broadcast left fewer =
    let ends = is_thread_of broadcast.process in
    let after = ended ends (with_left s left) in
    only_tasks script s (Act number) (Aborted task cause) left after.tasks (dropped broadcast.process s.broadcasts)
    (without_flag s.dumpable broadcast.process) after.deferred
    fewer
    (Fewer ends refl refl (ByAbort number task cause broadcast refl refl refl refl refl)) (ended_stay (with_left s left) ends)

follow_changes : (script : Script) (s : State) (number task : ℕ) (broadcast : Broadcast) (owner : Task) (old : Numbered)
    (made : Result Credential Denial) → broadcast_of s number ≡ Some broadcast → slice_get broadcast.waiting 0 ≡ Some task
    → task_of s task ≡ Some owner → current_of s task ≡ Some old → set_id old.cred broadcast.call ≡ made
    → Changes script s (Act number) (follow s broadcast task owner old (by_rule made))
follow_changes script s number task broadcast owner old (Err refusal) opened first found is ruled =
    process_ends script s number task cause.Perm broadcast s.deferred (All-contains_itself s.deferred)
follow_changes script s number task broadcast owner old (Ok new) opened first found is ruled =
    let event = Act number in
    let left_waiting = length broadcast.waiting - 1 in
    in_slots (Changes script s event) s (λ now. (Aborted task cause.Full, aborted broadcast now))
    (λ now slot. (
      Acted task (length now.creds) slot left_waiting,
      record (replaced now task old.number new slot) {
        broadcasts = waits_no_more task now.broadcasts;
        dumpable = renewed now.dumpable owner.process (differs old.cred new);
      },
    ))
    (process_ends script s number task cause.Full broadcast)
    (λ left slot fewer free.
    with_tasks script s event (Acted task (length s.creds) slot left_waiting) left (with_current s.tasks task (length s.creds))
    (waits_no_more task s.broadcasts) (renewed s.dumpable owner.process (differs old.cred new)) new slot (left ++ old.number ∷ []) fewer free
    (OfCall task old broadcast.call is ruled)
    (Renews task slot owner new (λ t. false) (renewed_all s task) refl found
    (ByAct number slot broadcast old refl opened first is ruled refl refl refl refl))
    (gives_up (with_left s left) old.number (current_stands (with_left s left) task old is)))

pub act_changes : (script : Script) (s : State) (line number : ℕ) → Changes script s (Act number) (step script s line (Act number))
act_changes script s line number =
    let Q = Changes script s (Act number) in
    outcome_has Q s _ (refused script s (Act number))
    (if_some Q (broadcast_of s number) _ _
    (λ broadcast opened. if_some Q (slice_get broadcast.waiting 0) _ _
    (λ task first. if_some Q (task_of s task) _ _
    (λ owner found. if_some Q (numbered s.creds owner.current) _ _
    (λ old at.
    follow_changes script s number task broadcast owner old (set_id old.cred broadcast.call) opened first found (own_is s task owner old found at) refl)))))

pub raw_changes : (script : Script) (s : State) (line task : ℕ) (call : IdCall)
    → Changes script s (Raw task call) (step script s line (Raw task call))
raw_changes script s line task call =
    let event = Raw task call in
    let Q = Changes script s event in
    outcome_has Q s _ (refused script s event)
    (if_some Q (task_of s task) _ _
    (λ owner found. if_some Q (numbered s.creds owner.current) _ _
    (λ old at. if_idle Q (broadcast_in s owner.process) _
    (λ idle. if_own Q owner _
    (if_rule Q (set_id old.cred call) _
    (λ new ruled.
    in_slots Q s table_full
    (λ s slot. (
      Sealed (length s.creds) slot,
      record (replaced s task old.number new slot) { dumpable = renewed s.dumpable owner.process (differs old.cred new) },
    ))
    (still script s event TableFull)
    (λ left slot fewer free.
    let is = own_is s task owner old found at in
    with_tasks script s event (Sealed (length s.creds) slot) left (with_current s.tasks task (length s.creds))
    s.broadcasts (renewed s.dumpable owner.process (differs old.cred new)) new slot (left ++ old.number ∷ []) fewer free
    (OfCall task old call is ruled)
    (Renews task slot owner new (λ t. false) (renewed_all s task) refl found
    (ByRaw call old slot refl is ruled idle refl refl refl refl))
    (gives_up (with_left s left) old.number (current_stands (with_left s left) task old is)))))))))

pub spawn_changes : (script : Script) (s : State) (line task child : ℕ) → Changes script s (Spawn task child) (step script s line (Spawn task child))
spawn_changes script s line task child =
    let event = Spawn task child in
    let Q = Changes script s event in
    outcome_has Q s _ (refused script s event)
    (if_some Q (task_of s task) _ _
    (λ owner found. if_some Q (numbered s.creds owner.current) _ _
    (λ parent at. if_idle Q (begun_by s task) _
    (λ idle. if_none Q (task_of s child) _ _
    (λ new. if_own Q owner _
    (if_fewer Q (length s.tasks) TASKS _ _
    (only_tasks script s event (Sealed parent.number parent.slot) s.deferred (s.tasks ++ first_task child owner.process parent.number ∷ [])
    (joined task child s.broadcasts) s.dumpable s.deferred (All-contains_itself s.deferred)
    (Shares task child owner.process parent refl refl (own_is s task owner parent found at) new (BySpawn owner refl found refl refl refl))
    (still_left s s.deferred))))))))

pub fork_changes : (script : Script) (s : State) (line task child process : ℕ)
    → Changes script s (Fork task child process) (step script s line (Fork task child process))
fork_changes script s line task child process =
    let event = Fork task child process in
    let Q = Changes script s event in
    outcome_has Q s _ (refused script s event)
    (if_some Q (task_of s task) _ _
    (λ owner found. if_some Q (numbered s.creds owner.current) _ _
    (λ parent at. if_idle Q (begun_by s task) _
    (λ idle. if_none Q (task_of s child) _ _
    (λ new. if_none Q (find (is_thread_of process) s.tasks) _ _
    (λ unused. if_own Q owner _
    (if_fewer Q (length s.tasks) TASKS _ _
    (only_tasks script s event (Sealed parent.number parent.slot) s.deferred (s.tasks ++ first_task child process parent.number ∷ []) s.broadcasts
    (with_process_flag s.dumpable process (is_dumpable s.dumpable owner.process)) s.deferred (All-contains_itself s.deferred)
    (Shares task child process parent refl refl (own_is s task owner parent found at) new (ByFork owner refl found unused refl refl))
    (still_left s s.deferred)))))))))

pub exit_changes : (script : Script) (s : State) (line task : ℕ) → Changes script s (Exit task) (step script s line (Exit task))
exit_changes script s line task =
    let event = Exit task in
    let Q = Changes script s event in
    outcome_has Q s _ (refused script s event)
    (if_some Q (task_of s task) _ _
    (λ owner found. if_idle Q (begun_by s task) _
    (λ idle. if_own Q owner _
    (let after = ended (is_task task) s in
    only_tasks script s event Done s.deferred after.tasks (waits_no_more task s.broadcasts) (flags_left s owner) after.deferred (All-contains_itself s.deferred)
    (Fewer (is_task task) refl refl (ByExit task owner refl found refl idle refl refl)) (ended_stay s (is_task task))))))
