-- No event drops what is referred to, and only a sweep drops what was given up.
use Rattle.std.proofs.Common.{◌≡◌, ◌==◌, ◌-◌, ◌⊎◌, inl, inr, ℕ, List, [], ◌∷◌, ◌++◌, length, nat_lt, slice_get, slice_set, find, position, Some, None, true}
use Rattle.std.proofs.Common.{Result, Ok, Err, refl, arith}
use Rattle.std.specs.Option.{option_and_then}
use Rattle.cred_ids.specs.Limits.{TASKS, OPEN_FILES, PREPARED, DEPTH}
use Rattle.cred_record.specs.Credential.{Credential, first_credential}
use Rattle.cred_record.specs.File.{File}
use Rattle.cred_record.specs.declared.id_call.IdCall.{IdCall}
use Rattle.cred_record.specs.declared.refusal.Denial.{Denial}
use Rattle.cred_record.specs.declared.want.Want.{Want}
use Rattle.cred_rules.specs.Access.{may_signal}
use Rattle.cred_rules.specs.SetId.{set_id}
use Rattle.cred_event.specs.declared.answer.AbortCause.TheVariants as cause
use Rattle.cred_event.specs.declared.answer.Answer.{Answer}
use Rattle.cred_event.specs.declared.answer.Answer.TheVariants.{Done, Sealed, Kept, TableFull, Began, Acted, Aborted}
use Rattle.cred_event.specs.declared.event.Change.{Change}
use Rattle.cred_event.specs.declared.event.Event.{Event}
use Rattle.cred_event.specs.declared.event.Event.TheVariants.{Init, Take, TakeFile, Release, Ask, Signal, Prepare, Alter, Commit, Abort, Override, Revert}
use Rattle.cred_event.specs.declared.event.Event.TheVariants.{Begin, Act, OpenFile, CloseFile, Spawn, Fork, Exit, Sweep, Dumpable, Dumped, Ptrace, Chown, Chmod}
use Rattle.cred_event.specs.declared.event.Event.TheVariants.{SetAttr, Stat, Raw}
use Rattle.cred_record.specs.declared.mode.PtraceMode.{PtraceMode}
use Rattle.cred_model.specs.Answers.{checked}
use Rattle.cred_model.specs.Broadcasts.{dropped, joined, others_of, waits_no_more, with_broadcast}
use Rattle.cred_model.specs.Change.{by_change, by_rule}
use Rattle.cred_model.specs.FileChanges.{changed_by}
use Rattle.cred_model.specs.Dumpable.{differs, flag_of_value, flags_begun, flags_left, is_dumpable, renewed, set_flag, with_process_flag, without_flag}
use Rattle.cred_model.specs.Ends.{ended, is_task, is_thread_of}
use Rattle.cred_model.specs.Moves.{created, first_task, preparing, replaced, table_full}
use Rattle.cred_model.specs.Named.{change_files}
use Rattle.cred_rules.specs.Ptrace.{may_trace}
use Rattle.cred_model.specs.Script.{Script, chain_of, reaches, root_of}
use Rattle.cred_model.specs.State.{State, Task, Broadcast, Prepared, Numbered, begun_by, broadcast_in, broadcast_of, credential_of, held_by, hold_of, info_of}
use Rattle.cred_model.specs.State.{numbered}
use Rattle.cred_model.specs.State.{open_of, opener_of, prepared_of, task_of}
use Rattle.cred_model.specs.LabelEvents.{for_access, for_task}
use Rattle.cred_model.specs.CallEvents.{aborted, by_raw, follow}
use Rattle.cred_model.specs.FileEvents.{by_file, by_stat}
use Rattle.cred_model.specs.Step.{outcome, step}
use Rattle.cred_sound.specs.Sound.{IsSound}
use Rattle.cred_sound.proofs.Parts.{with_left}
use Rattle.cred_sound.proofs.Tests.{outcome_has, if_some, if_none, if_either, if_fewer, if_passed, if_idle, if_own, if_last, if_rule, if_file_rule, if_ok}
use Rattle.cred_machine.specs.Kept.{as_begun}
use Rattle.cred_machine.proofs.KeptByEvents.{IsLeft, Keeps, alters, closes, gives_up_prepared, if_left, if_left_one, in_slots, less, opens, prepares, refused}
use Rattle.cred_machine.proofs.KeptByEvents.{releases, still, takes_hold, with_flags, with_inodes}
use Rattle.cred_machine.proofs.KeepingTasks.{creates, ends_some, lends, lends_prepared, replaces, reverts, shares, tries_commit}

-- where no slot is free
full : (s : State) (left : List ℕ) → IsLeft s left → Keeps s (table_full (with_left s left))
full s left is = still s TableFull left (if_left s left is)

init_keeps : (script : Script) (s : State) (line task process user group ns : ℕ) → Keeps s (step script s line (Init task process user group ns))
init_keeps script s line task process user group ns =
    let Q = Keeps s in
    let c = first_credential user group ns (root_of script ns) in
    outcome_has Q s _ (refused s)
    (if_idle Q (broadcast_in s process) _
    (λ idle. if_none Q (task_of s task) _ _
    (λ new. if_fewer Q (length s.tasks) TASKS _ _
    (in_slots Q s table_full
    (λ s slot. (Sealed (length s.creds) slot, record (created s (first_task task process (length s.creds)) c slot) { dumpable = flags_begun s process }))
    (full s)
    (λ left slot is.
    let t = created (with_left s left) (first_task task process (length s.creds)) c slot in
    with_flags s t (Sealed (length s.creds) slot) (flags_begun s process) (creates s left slot task process c is))))))

release_keeps : (script : Script) (s : State) (line label : ℕ) → Keeps s (step script s line (Release label))
release_keeps script s line label =
    let Q = Keeps s in
    outcome_has Q s _ (refused s)
    (if_some Q (position (λ h. h.label == label) s.holds) _ _
    (λ place at. if_some Q (slice_get s.holds place) _ _
    (λ hold is. releases s place hold is)))

open_keeps : (script : Script) (s : State) (line hold place : ℕ) (asked : Want) (fd : ℕ) → Keeps s (step script s line (OpenFile hold place asked fd))
open_keeps script s line hold place asked fd =
    let Q = Keeps s in
    outcome_has Q s _ (refused s)
    (if_some Q (held_by s hold) _ _
    (λ held is. if_none Q (open_of s fd) _ _
    (λ new. if_passed Q (checked held.cred (info_of s.inodes (place ∷ [])) asked) _
    (if_fewer Q (length s.files) OPEN_FILES _ _
    (opens s (record { fd = fd; opener = held.number; file = place }))))))

close_keeps : (script : Script) (s : State) (line fd : ℕ) → Keeps s (step script s line (CloseFile fd))
close_keeps script s line fd =
    let Q = Keeps s in
    outcome_has Q s _ (refused s)
    (if_some Q (position (λ f. f.fd == fd) s.files) _ _
    (λ place at. if_some Q (slice_get s.files place) _ _
    (λ file is. closes s place file is)))

signal_keeps : (script : Script) (s : State) (line from hold to target : ℕ) → Keeps s (step script s line (Signal from hold to target))
signal_keeps script s line from hold to target =
    let Q = Keeps s in
    outcome_has Q s _ (refused s)
    (if_some Q (task_of s from) _ _
    (λ sender is. if_some Q (task_of s to) _ _
    (λ receiver there. if_some Q (held_by s hold) _ _
    (λ own held. if_some Q (held_by s target) _ _
    (λ other at. if_last Q (may_signal own.cred other.cred (sender.process == receiver.process)) _ _ (refused s Done))))))

prepare_keeps : (script : Script) (s : State) (line label task hold : ℕ) → Keeps s (step script s line (Prepare label task hold))
prepare_keeps script s line label task hold =
    let Q = Keeps s in
    let new_label : ℕ → ℕ → Prepared
    = λ slot base. record { label = label; task = task; base = base; slot = slot; changed = None } in
    outcome_has Q s _ (refused s)
    (if_some Q (task_of s task) _ _
    (λ owner is. if_idle Q (begun_by s task) _
    (λ idle. if_some Q (hold_of s hold) _ _
    (λ base held. if_none Q (hold_of s label) _ _
    (λ new. if_none Q (prepared_of s label) _ _
    (λ unprepared. if_fewer Q (length s.prepared) PREPARED _ _
    (in_slots Q s table_full (λ s slot. (Kept slot, preparing s (new_label slot base.number)))
    (full s)
    (λ left slot is. prepares s left slot (new_label slot base.number) is))))))))

alter_keeps : (script : Script) (s : State) (line label : ℕ) (change : Change) → Keeps s (step script s line (Alter label change))
alter_keeps script s line label change =
    let Q = Keeps s in
    outcome_has Q s _ (refused s)
    (if_some Q (prepared_of s label) _ _
    (λ p is. if_some Q (numbered s.creds p.base) _ _
    (λ base at. if_ok Q (by_change (info_of s.inodes (change_files change)) (chain_of script base.cred.ns) base.cred change) _
    (λ made so. alters s made.answer label (record { change = change; cred = made.cred; gains = made.gains })))))

commit_keeps : (script : Script) (s : State) (line label : ℕ) → IsSound s → Keeps s (step script s line (Commit label))
commit_keeps script s line label sound =
    let Q = Keeps s in
    outcome_has Q s _ (refused s)
    (if_some Q (position (λ p. p.label == label) s.prepared) _ _
    (λ place at. if_some Q (slice_get s.prepared place) _ _
    (λ p is. if_some Q (option_and_then for_task p.changed) _ _
    (λ last changed. if_some Q (task_of s p.task) _ _
    (λ owner found. if_idle Q (begun_by s p.task) _
    (λ idle. if_own Q owner _
    (tries_commit s place p owner last sound is found)))))))

abort_keeps : (script : Script) (s : State) (line label : ℕ) → Keeps s (step script s line (Abort label))
abort_keeps script s line label =
    let Q = Keeps s in
    outcome_has Q s _ (refused s)
    (if_some Q (position (λ p. p.label == label) s.prepared) _ _
    (λ place at. if_some Q (slice_get s.prepared place) _ _
    (λ p is. gives_up_prepared s Done place p is)))

override_keeps : (script : Script) (s : State) (line task label : ℕ) → IsSound s → Keeps s (step script s line (Override task label))
override_keeps script s line task label sound =
    let Q = Keeps s in
    outcome_has Q s _ (refused s)
    (if_some Q (task_of s task) _ _
    (λ owner found. if_either Q (held_by s label) _ _
    (λ held is. if_fewer Q (length owner.overrides) DEPTH _ _ (lends s (Sealed held.number held.slot) task held.number owner sound found))
    (λ none. if_some Q (position (λ p. p.label == label) s.prepared) _ _
    (λ place at. if_some Q (slice_get s.prepared place) _ _
    (λ p is. if_some Q (for_access owner.number p) _ _
    (λ last changed. if_fewer Q (length owner.overrides) DEPTH _ _
    (lends_prepared s (Sealed (length s.creds) p.slot) place task p owner last.cred sound is found)))))))

revert_keeps : (script : Script) (s : State) (line task : ℕ) → IsSound s → Keeps s (step script s line (Revert task))
revert_keeps script s line task sound =
    let Q = Keeps s in
    outcome_has Q s _ (refused s)
    (if_some Q (task_of s task) _ _
    (λ owner found. if_some Q (slice_get owner.overrides 0) _ _
    (λ newest is. reverts s task newest owner sound found is)))

begin_keeps : (script : Script) (s : State) (line task : ℕ) (call : IdCall) → IsSound s → Keeps s (step script s line (Begin task call))
begin_keeps script s line task call sound =
    let Q = Keeps s in
    outcome_has Q s _ (refused s)
    (if_some Q (task_of s task) _ _
    (λ owner found. if_some Q (numbered s.creds owner.current) _ _
    (λ old at. if_idle Q (broadcast_in s owner.process) _
    (λ idle. if_none Q (broadcast_of s line) _ _
    (λ unused. if_own Q owner _
    (if_rule Q (set_id old.cred call) _
    (λ new ruled.
    let others = others_of owner s.tasks in
    let broadcast : Broadcast = record { number = line; process = owner.process; caller = task; call = call; waiting = others } in
    in_slots Q s table_full
    (λ s slot. (
      Began (length s.creds) slot (length others),
      record (replaced s task old.number new slot) {
        broadcasts = with_broadcast s.broadcasts broadcast;
        dumpable = renewed s.dumpable owner.process (differs old.cred new);
      },
    ))
    (full s)
    (λ left slot is.
    let answer = Began (length s.creds) slot (length others) in
    let t = record (replaced (with_left s left) task old.number new slot) { broadcasts = with_broadcast s.broadcasts broadcast } in
    with_flags s t answer (renewed s.dumpable owner.process (differs old.cred new))
    (replaces s answer left task slot owner old new (with_broadcast s.broadcasts broadcast) sound found at (if_left_one s left old.number is))))))))))

follow_keeps : (s : State) (broadcast : Broadcast) (task : ℕ) (owner : Task) (old : Numbered) (made : Result Credential Denial) → IsSound s
    → task_of s task ≡ Some owner → numbered s.creds owner.current ≡ Some old → Keeps s (follow s broadcast task owner old (by_rule made))
follow_keeps s broadcast task owner old (Err refusal) sound found at =
    let answer = Aborted task cause.Perm in
    let t = record (ended (is_thread_of broadcast.process) s) { broadcasts = dropped broadcast.process s.broadcasts } in
    with_flags s t answer (without_flag s.dumpable broadcast.process) (ends_some s answer s.deferred (is_thread_of broadcast.process) _ (inl refl))
follow_keeps s broadcast task owner old (Ok new) sound found at =
    let left_waiting = length broadcast.waiting - 1 in
    in_slots (Keeps s) s (λ now. (Aborted task cause.Full, aborted broadcast now))
    (λ now slot. (
      Acted task (length now.creds) slot left_waiting,
      record (replaced now task old.number new slot) {
        broadcasts = waits_no_more task now.broadcasts;
        dumpable = renewed now.dumpable owner.process (differs old.cred new);
      },
    ))
    (λ left is.
    let answer = Aborted task cause.Full in
    let t = record (ended (is_thread_of broadcast.process) (with_left s left)) { broadcasts = dropped broadcast.process s.broadcasts } in
    with_flags s t answer (without_flag s.dumpable broadcast.process) (ends_some s answer left (is_thread_of broadcast.process) _ (inr (λ after. refl))))
    (λ left slot is.
    let answer = Acted task (length s.creds) slot left_waiting in
    let t = record (replaced (with_left s left) task old.number new slot) { broadcasts = waits_no_more task s.broadcasts } in
    with_flags s t answer (renewed s.dumpable owner.process (differs old.cred new))
    (replaces s answer left task slot owner old new (waits_no_more task s.broadcasts) sound found at (if_left_one s left old.number is)))

act_keeps : (script : Script) (s : State) (line number : ℕ) → IsSound s → Keeps s (step script s line (Act number))
act_keeps script s line number sound =
    let Q = Keeps s in
    outcome_has Q s _ (refused s)
    (if_some Q (broadcast_of s number) _ _
    (λ broadcast opened. if_some Q (slice_get broadcast.waiting 0) _ _
    (λ task first. if_some Q (task_of s task) _ _
    (λ owner found. if_some Q (numbered s.creds owner.current) _ _
    (λ old at. follow_keeps s broadcast task owner old (set_id old.cred broadcast.call) sound found at)))))

spawn_keeps : (script : Script) (s : State) (line task child : ℕ) → Keeps s (step script s line (Spawn task child))
spawn_keeps script s line task child =
    let Q = Keeps s in
    outcome_has Q s _ (refused s)
    (if_some Q (task_of s task) _ _
    (λ owner found. if_some Q (numbered s.creds owner.current) _ _
    (λ parent at. if_idle Q (begun_by s task) _
    (λ idle. if_none Q (task_of s child) _ _
    (λ new. if_own Q owner _
    (if_fewer Q (length s.tasks) TASKS _ _
    (shares s (Sealed parent.number parent.slot) (first_task child owner.process parent.number) (joined task child s.broadcasts))))))))

fork_keeps : (script : Script) (s : State) (line task child process : ℕ) → Keeps s (step script s line (Fork task child process))
fork_keeps script s line task child process =
    let Q = Keeps s in
    outcome_has Q s _ (refused s)
    (if_some Q (task_of s task) _ _
    (λ owner found. if_some Q (numbered s.creds owner.current) _ _
    (λ parent at. if_idle Q (begun_by s task) _
    (λ idle. if_none Q (task_of s child) _ _
    (λ new. if_none Q (find (is_thread_of process) s.tasks) _ _
    (λ unused. if_own Q owner _
    (if_fewer Q (length s.tasks) TASKS _ _
    (let answer = Sealed parent.number parent.slot in
    let t = record s { tasks = s.tasks ++ first_task child process parent.number ∷ []; broadcasts = s.broadcasts } in
    with_flags s t answer (with_process_flag s.dumpable process (is_dumpable s.dumpable owner.process))
    (shares s answer (first_task child process parent.number) s.broadcasts)))))))))

exit_keeps : (script : Script) (s : State) (line task : ℕ) → Keeps s (step script s line (Exit task))
exit_keeps script s line task =
    let Q = Keeps s in
    outcome_has Q s _ (refused s)
    (if_some Q (task_of s task) _ _
    (λ owner is. if_idle Q (begun_by s task) _
    (λ idle. if_own Q owner _
    (let t = record (ended (is_task task) s) { broadcasts = waits_no_more task s.broadcasts } in
    with_flags s t Done (flags_left s owner) (ends_some s Done s.deferred (is_task task) (waits_no_more task s.broadcasts) (inl refl))))))

dumpable_keeps : (script : Script) (s : State) (line task value : ℕ) → Keeps s (step script s line (Dumpable task value))
dumpable_keeps script s line task value =
    let Q = Keeps s in
    outcome_has Q s _ (refused s)
    (if_some Q (task_of s task) _ _
    (λ owner is. if_some Q (flag_of_value value) _ _
    (λ flag known. with_flags s s Done (set_flag s.dumpable owner.process flag) (refused s Done))))

ptrace_keeps : (script : Script) (s : State) (line from hold to target : ℕ) (mode : PtraceMode) → Keeps s (step script s line (Ptrace from hold to target mode))
ptrace_keeps script s line from hold to target mode =
    let Q = Keeps s in
    outcome_has Q s _ (refused s)
    (if_some Q (task_of s from) _ _
    (λ sender is. if_some Q (task_of s to) _ _
    (λ receiver there. if_some Q (held_by s hold) _ _
    (λ own held. if_some Q (held_by s target) _ _
    (λ other at.
    let same = sender.process == receiver.process in
    let reach = reaches script.namespaces own.cred.ns other.cred.ns in
    let dumpable = is_dumpable s.dumpable receiver.process in
    if_last Q (may_trace own.cred other.cred same reach dumpable mode) _ _ (refused s Done))))))

-- a file is changed
file_keeps : (s : State) (hold place : ℕ) (rule : Credential → File → Result File Denial) → Keeps s (outcome s (by_file s hold place rule))
file_keeps s hold place rule =
    let Q = Keeps s in
    outcome_has Q s _ (refused s)
    (if_some Q (held_by s hold) _ _
    (λ held is. if_some Q (slice_get s.inodes place) _ _
    (λ old there. if_file_rule Q (rule held.cred old) _
    (λ new ruled. with_inodes s s Done (slice_set s.inodes place new) (refused s Done)))))

stat_keeps : (s : State) (hold place : ℕ) → Keeps s (outcome s (by_stat s hold place))
stat_keeps s hold place =
    let Q = Keeps s in
    outcome_has Q s _ (refused s)
    (if_some Q (held_by s hold) _ _
    (λ held is. if_some Q (slice_get s.inodes place) _ _ (λ file there. refused s _)))

-- with the answer by which a call of one thread alone counts
abbrev raw_counted : Answer × State → Answer × State
raw_counted made = (as_begun made.0, made.1)

raw_keeps : (s : State) (task : ℕ) (call : IdCall) → IsSound s → Keeps s (raw_counted (outcome s (by_raw s task call)))
raw_keeps s task call sound =
    let Q : Answer × State → Type 0 = λ made. Keeps s (raw_counted made) in
    outcome_has Q s _ (λ answer. refused s (as_begun answer))
    (if_some Q (task_of s task) _ _
    (λ owner found. if_some Q (numbered s.creds owner.current) _ _
    (λ old at. if_idle Q (broadcast_in s owner.process) _
    (λ idle. if_own Q owner _
    (if_rule Q (set_id old.cred call) _
    (λ new ruled.
    in_slots Q s table_full
    (λ s slot.
    (Sealed (length s.creds) slot, record (replaced s task old.number new slot) { dumpable = renewed s.dumpable owner.process (differs old.cred new) }))
    (full s)
    (λ left slot is.
    let answer = Began (length s.creds) slot 0 in
    let t = record (replaced (with_left s left) task old.number new slot) { broadcasts = s.broadcasts } in
    with_flags s t answer (renewed s.dumpable owner.process (differs old.cred new))
    (replaces s answer left task slot owner old new s.broadcasts sound found at (if_left_one s left old.number is)))))))))

-- with the answer by which an event counts
abbrev pub counted : Event → Answer × State → Answer × State
counted (Raw task call) made = raw_counted made
counted event made = made

-- what an event keeps
pub keeps : (script : Script) (s : State) (line : ℕ) (event : Event) → IsSound s → Keeps s (counted event (step script s line event))
keeps script s line (Init task process user group ns) sound = init_keeps script s line task process user group ns
keeps script s line (Take label task side) sound =
    outcome_has (Keeps s) s _ (refused s)
    (if_some _ (credential_of s task side) _ _ (λ taken is. takes_hold s label taken))
keeps script s line (TakeFile label fd) sound =
    outcome_has (Keeps s) s _ (refused s)
    (if_some _ (opener_of s fd) _ _ (λ taken is. takes_hold s label taken))
keeps script s line (Release label) sound = release_keeps script s line label
keeps script s line (Ask label query) sound =
    outcome_has (Keeps s) s _ (refused s)
    (if_some _ (held_by s label) _ _ (λ held is. refused s _))
keeps script s line (Signal from hold to target) sound = signal_keeps script s line from hold to target
keeps script s line (Prepare label task hold) sound = prepare_keeps script s line label task hold
keeps script s line (Alter label change) sound = alter_keeps script s line label change
keeps script s line (Commit label) sound = commit_keeps script s line label sound
keeps script s line (Abort label) sound = abort_keeps script s line label
keeps script s line (Override task label) sound = override_keeps script s line task label sound
keeps script s line (Revert task) sound = revert_keeps script s line task sound
keeps script s line (Begin task call) sound = begin_keeps script s line task call sound
keeps script s line (Act number) sound = act_keeps script s line number sound
keeps script s line (OpenFile hold place asked fd) sound = open_keeps script s line hold place asked fd
keeps script s line (CloseFile fd) sound = close_keeps script s line fd
keeps script s line (Spawn task child) sound = spawn_keeps script s line task child
keeps script s line (Fork task child process) sound = fork_keeps script s line task child process
keeps script s line (Exit task) sound = exit_keeps script s line task
keeps script s line (Dumpable task value) sound = dumpable_keeps script s line task value
keeps script s line (Dumped task) sound =
    outcome_has (Keeps s) s _ (refused s)
    (if_some _ (task_of s task) _ _ (λ owner is. refused s _))
keeps script s line (Ptrace from hold to target mode) sound = ptrace_keeps script s line from hold to target mode
keeps script s line (Chown hold place owner group) sound = file_keeps s hold place (changed_by (Chown hold place owner group))
keeps script s line (Chmod hold place mode) sound = file_keeps s hold place (changed_by (Chmod hold place mode))
keeps script s line (SetAttr hold place attr) sound = file_keeps s hold place (changed_by (SetAttr hold place attr))
keeps script s line (Stat hold place) sound = stat_keeps s hold place
keeps script s line (Raw task call) sound = raw_keeps s task call sound
keeps script s line Sweep sound = still s Done [] (at s.deferred)
  where
    at : (xs : List ℕ) → ([] ≡ xs) ⊎ (nat_lt 0 (length xs) ≡ true)
    at [] = inl refl
    at (x ∷ xs) = inr (less (length (x ∷ xs)) (omega arith))
