-- An answer that holds a list is a question's, and leaves the state.
use Rattle.std.proofs.Common.{◌≡◌, ℕ, ◌==◌, ◌-◌, true, false, cond, List, [], ◌∷◌, length, Result, Ok, Err, IfOk, Option, Some, None, find, position, slice_get}
use Rattle.std.proofs.Common.{refl, sym, subst}
use Rattle.std.specs.List.{count_by}
use Rattle.std.specs.Option.{option_and_then}
use Rattle.cred_ids.specs.Limits.{TASKS, OPEN_FILES, HOLDS, PREPARED, DEPTH}
use Rattle.cred_record.specs.Credential.{Credential, first_credential}
use Rattle.cred_record.specs.File.{File}
use Rattle.cred_record.specs.declared.gains.Gains.{Gains}
use Rattle.cred_record.specs.declared.refusal.Denial.{Denial}
use Rattle.cred_rules.specs.Access.{may_signal}
use Rattle.cred_rules.specs.Adjust.{adjust}
use Rattle.cred_rules.specs.Exec.{Executed, NoExec, exec}
use Rattle.cred_rules.specs.SetId.{set_id}
use Rattle.cred_copies.specs.Lists.{HoldsList}
use Rattle.cred_event.specs.declared.event.Event.{Event}
use Rattle.cred_event.specs.declared.event.Event.TheVariants.{Init, Take, TakeFile, Release, Ask, Signal, Prepare, Alter, Commit, Abort, Override, Revert}
use Rattle.cred_event.specs.declared.event.Event.TheVariants.{Begin, Act, OpenFile, CloseFile, Spawn, Fork, Exit, Sweep, Dumpable, Dumped, Ptrace, Chown, Chmod}
use Rattle.cred_event.specs.declared.event.Event.TheVariants.{SetAttr, Stat, Raw}
use Rattle.cred_event.specs.declared.event.Change.{Change}
use Rattle.cred_event.specs.declared.event.Change.TheVariants.{SetFs, Adjust, Exec, Access}
use Rattle.cred_event.specs.declared.answer.Answer.{Answer}
use Rattle.cred_event.specs.declared.answer.Answer.TheVariants.{Sealed, Kept, Began, Acted, Aborted, Stale}
use Rattle.cred_event.specs.declared.answer.AbortCause.TheVariants as cause
use Rattle.cred_model.specs.FileChanges.{changed_by}
use Rattle.cred_model.specs.Script.{Script, chain_of, root_of, reaches}
use Rattle.cred_model.specs.Dumpable.{differs, flag_of_value, flags_begun, flags_committed, is_dumpable, renewed}
use Rattle.cred_rules.specs.Ptrace.{may_trace}
use Rattle.cred_model.specs.State.{State, Task, Broadcast, Prepared, Changed, Numbered, credential_of, opener_of, numbered, task_of, broadcast_of, broadcast_in}
use Rattle.cred_model.specs.State.{begun_by}
use Rattle.cred_model.specs.State.{open_of, hold_of, prepared_of, held_by, info_of}
use Rattle.cred_model.specs.Named.{change_files}
use Rattle.cred_model.specs.Answers.{checked}
use Rattle.cred_model.specs.Change.{Made, made_by_rule, made_by_exec, made_by_execve, by_change, by_rule}
use Rattle.cred_model.specs.Ends.{is_thread_of, ended}
use Rattle.cred_model.specs.Broadcasts.{others_of, with_broadcast, waits_no_more}
use Rattle.cred_model.specs.Like.{IsLike, IsOutcomeLike}
use Rattle.cred_model.specs.Moves.{table_full, first_task, created, replaced, preparing, given_up, committed}
use Rattle.cred_model.specs.LabelEvents.{broadcasts_after, commit_answer, committed_by, ends_with, for_access, for_task, override_held, override_prepared}
use Rattle.cred_model.specs.LabelEvents.{take_hold, try_commit}
use Rattle.cred_model.specs.CallEvents.{aborted, follow}
use Rattle.cred_model.specs.FileEvents.{by_file}
use Rattle.cred_model.specs.Step.{outcome, step}
use Rattle.cred_sound.proofs.Tests.{IfAllowed, outcome_has, if_some, if_none, if_either, if_fewer, if_passed, if_idle, if_own, if_last, if_file_rule, if_rule}
use Rattle.cred_sound.proofs.Tests.{if_ok, in_slots}

-- the state is left where the answer holds a list
abbrev Leaves : State → Answer × State → Type 0
Leaves s made = HoldsList made.0 → made.1 ≡ s

-- a refusal leaves the state
refuses : (s : State) (answer : Answer) → Leaves s (answer, s)
refuses s answer list = refl

-- ---- answers of parts that events share

takes_hold : (s : State) (label : ℕ) (taken : Numbered) → IfAllowed (Leaves s) (take_hold s label taken)
takes_hold s label taken =
    if_none (Leaves s) (hold_of s label) _ _
    (λ new. if_none (Leaves s) (prepared_of s label) _ _
    (λ unprepared. if_fewer (Leaves s) (length s.holds) HOLDS _ _ (λ list. absurd list)))

abbrev IsPlain : Result Made Answer → Type 0
IsPlain r = IfOk r (λ made. HoldsList made.answer → ⊥)

adjusts_plainly : (r : Result Credential Denial) → IsPlain (made_by_rule r)
adjusts_plainly (Ok c) = λ list. list
adjusts_plainly (Err denial) = tt

executes_plainly : (r : Result Executed NoExec) → IsPlain (made_by_exec r)
executes_plainly (Ok e) = λ list. list
executes_plainly (Err why) = tt

execs_plainly : (file : Option File) (chain : List ℕ) (base : Credential) → IsPlain (made_by_execve file chain base)
execs_plainly None chain base = tt
execs_plainly (Some file) chain base = executes_plainly (exec base file chain)

-- A change is answered without a list.
alters_plainly : (file : Option File) (chain : List ℕ) (base : Credential) (change : Change) → IsPlain (by_change file chain base change)
alters_plainly file chain base (SetFs kind id) = λ list. list
alters_plainly file chain base (Adjust call) = adjusts_plainly (adjust base call)
alters_plainly file chain base (Exec place) = execs_plainly file chain base
alters_plainly file chain base Access = λ list. list

-- A commit is answered without a list.
commits_plainly : (change : Change) (gains : Gains) (number slot count : ℕ) → HoldsList (committed_by change gains number slot count) → ⊥
commits_plainly (Exec file) gains number slot count list = list
commits_plainly change gains number slot count list = list

tries_commit : (s : State) (place : ℕ) (p : Prepared) (owner : Task) (last : Changed) → Leaves s (try_commit s place p owner last)
tries_commit s place p owner last =
    let ends = ends_with last.change owner in
    let count = count_by ends s.tasks in
    let now = broadcasts_after last.change owner (committed (ended ends s) place p owner.current last.cred) in
    elim (owner.current == p.base) as (λ b. Leaves s (cond {A = Answer × State} b (
      commit_answer last (length s.creds) p.slot count,
      record now { dumpable = flags_committed s owner last },
    ) (Stale p.base owner.current, given_up s place p))) [
      | true ↦ λ list. absurd (commits_plainly last.change last.gains (length s.creds) p.slot count list)
      | false ↦ λ list. absurd list
    ]

follows_plainly : (s : State) (broadcast : Broadcast) (task : ℕ) (owner : Task) (old : Numbered)
    (made : Result Credential Denial) → Leaves s (follow s broadcast task owner old (by_rule made))
follows_plainly s broadcast task owner old (Err refusal) = λ list. absurd list
follows_plainly s broadcast task owner old (Ok new) =
    in_slots (Leaves s) s (λ now. (Aborted task cause.Full, aborted broadcast now))
    (λ now slot. (
      Acted task (length now.creds) slot (length broadcast.waiting - 1),
      record (replaced now task old.number new slot) {
        broadcasts = waits_no_more task now.broadcasts;
        dumpable = renewed now.dumpable owner.process (differs old.cred new);
      },
    ))
    (λ left fewer list. absurd list)
    (λ left slot fewer free list. absurd list)

holds_override : (s : State) (owner : Task) (held : Numbered) → IfAllowed (Leaves s) (override_held s owner held)
holds_override s owner held = if_fewer (Leaves s) (length owner.overrides) DEPTH _ _ (λ list. absurd list)

prepares_override : (s : State) (owner : Task) (label : ℕ) → IfAllowed (Leaves s) (override_prepared s owner label)
prepares_override s owner label =
    if_some (Leaves s) (position (λ p. p.label == label) s.prepared) _ _
    (λ place at. if_some (Leaves s) (slice_get s.prepared place) _ _
    (λ p is. if_some (Leaves s) (for_access owner.number p) _ _
    (λ last changed. if_fewer (Leaves s) (length owner.overrides) DEPTH _ _ (λ list. absurd list))))

-- a change of a file is told by no list
files_plainly : (s : State) (event : Event) (hold place : ℕ)
    → Leaves s (outcome s (by_file s hold place (changed_by event)))
files_plainly s event hold place =
    outcome_has (Leaves s) s _ (refuses s)
    (if_some (Leaves s) (held_by s hold) _ _
    (λ held at. if_some (Leaves s) (slice_get s.inodes place) _ _
    (λ old there. if_file_rule (Leaves s) (changed_by event held.cred old) _
    (λ new ruled list. absurd list))))

-- ---- every event

by_event : (script : Script) (s : State) (line : ℕ) (event : Event) → Leaves s (step script s line event)
by_event script s line (Init task process user group ns) =
    let c = first_credential user group ns (root_of script ns) in
    outcome_has (Leaves s) s _ (refuses s)
    (if_idle (Leaves s) (broadcast_in s process) _
    (λ idle. if_none (Leaves s) (task_of s task) _ _
    (λ new. if_fewer (Leaves s) (length s.tasks) TASKS _ _
    (in_slots (Leaves s) s table_full
    (λ s slot. (
      Sealed (length s.creds) slot,
      record (created s (first_task task process (length s.creds)) c slot) {
        dumpable = flags_begun s process;
      },
    ))
    (λ left fewer list. absurd list)
    (λ left slot fewer free list. absurd list)))))
by_event script s line (Take label task side) =
    outcome_has (Leaves s) s _ (refuses s)
    (if_some (Leaves s) (credential_of s task side) _ _ (λ taken is. takes_hold s label taken))
by_event script s line (TakeFile label fd) =
    outcome_has (Leaves s) s _ (refuses s)
    (if_some (Leaves s) (opener_of s fd) _ _ (λ taken is. takes_hold s label taken))
by_event script s line (Release label) =
    outcome_has (Leaves s) s _ (refuses s)
    (if_some (Leaves s) (position (λ h. h.label == label) s.holds) _ _
    (λ place at. if_some (Leaves s) (slice_get s.holds place) _ _ (λ hold is list. absurd list)))
by_event script s line (Ask label query) =
    outcome_has (Leaves s) s _ (refuses s)
    (if_some (Leaves s) (held_by s label) _ _ (λ held is list. refl))
by_event script s line (Signal from hold to target) =
    outcome_has (Leaves s) s _ (refuses s)
    (if_some (Leaves s) (task_of s from) _ _
    (λ sender is. if_some (Leaves s) (task_of s to) _ _
    (λ receiver there. if_some (Leaves s) (held_by s hold) _ _
    (λ own held. if_some (Leaves s) (held_by s target) _ _
    (λ other at. if_last (Leaves s) (may_signal own.cred other.cred (sender.process == receiver.process)) _ _ (λ list. refl))))))
by_event script s line (Prepare label task hold) =
    outcome_has (Leaves s) s _ (refuses s)
    (if_some (Leaves s) (task_of s task) _ _
    (λ owner is. if_idle (Leaves s) (begun_by s task) _
    (λ idle. if_some (Leaves s) (hold_of s hold) _ _
    (λ base held. if_none (Leaves s) (hold_of s label) _ _
    (λ new. if_none (Leaves s) (prepared_of s label) _ _
    (λ unprepared. if_fewer (Leaves s) (length s.prepared) PREPARED _ _
    (in_slots (Leaves s) s table_full
    (λ s slot. (Kept slot, preparing s (record { label = label; task = task; base = base.number; slot = slot; changed = None })))
    (λ left fewer list. absurd list)
    (λ left slot fewer free list. absurd list))))))))
by_event script s line (Alter label change) =
    outcome_has (Leaves s) s _ (refuses s)
    (if_some (Leaves s) (prepared_of s label) _ _
    (λ p is. if_some (Leaves s) (numbered s.creds p.base) _ _
    (λ base at.
    let file = info_of s.inodes (change_files change) in
    let chain = chain_of script base.cred.ns in
    if_ok (Leaves s) (by_change file chain base.cred change) _
    (λ made so list.
    let plain : HoldsList made.answer → ⊥ = subst IsPlain so (alters_plainly file chain base.cred change) in
    absurd (plain list)))))
by_event script s line (Commit label) =
    outcome_has (Leaves s) s _ (refuses s)
    (if_some (Leaves s) (position (λ p. p.label == label) s.prepared) _ _
    (λ place at. if_some (Leaves s) (slice_get s.prepared place) _ _
    (λ p is. if_some (Leaves s) (option_and_then for_task p.changed) _ _
    (λ last changed. if_some (Leaves s) (task_of s p.task) _ _
    (λ owner found. if_idle (Leaves s) (begun_by s p.task) _
    (λ idle. if_own (Leaves s) owner _ (tries_commit s place p owner last)))))))
by_event script s line (Abort label) =
    outcome_has (Leaves s) s _ (refuses s)
    (if_some (Leaves s) (position (λ p. p.label == label) s.prepared) _ _
    (λ place at. if_some (Leaves s) (slice_get s.prepared place) _ _ (λ p is list. absurd list)))
by_event script s line (Override task label) =
    outcome_has (Leaves s) s _ (refuses s)
    (if_some (Leaves s) (task_of s task) _ _
    (λ owner found. if_either (Leaves s) (held_by s label) _ _
    (λ held is. holds_override s owner held)
    (λ none. prepares_override s owner label)))
by_event script s line (Revert task) =
    outcome_has (Leaves s) s _ (refuses s)
    (if_some (Leaves s) (task_of s task) _ _
    (λ owner found. if_some (Leaves s) (slice_get owner.overrides 0) _ _ (λ newest is list. absurd list)))
by_event script s line (Begin task call) =
    outcome_has (Leaves s) s _ (refuses s)
    (if_some (Leaves s) (task_of s task) _ _
    (λ owner found. if_some (Leaves s) (numbered s.creds owner.current) _ _
    (λ old at. if_idle (Leaves s) (broadcast_in s owner.process) _
    (λ idle. if_none (Leaves s) (broadcast_of s line) _ _
    (λ unused. if_own (Leaves s) owner _
    (if_rule (Leaves s) (set_id old.cred call) _
    (λ new ruled.
    let others = others_of owner s.tasks in
    let broadcast : Broadcast = record { number = line; process = owner.process; caller = task; call = call; waiting = others } in
    in_slots (Leaves s) s table_full
    (λ s slot. (
      Began (length s.creds) slot (length others),
      record (replaced s task old.number new slot) {
        broadcasts = with_broadcast s.broadcasts broadcast;
        dumpable = renewed s.dumpable owner.process (differs old.cred new);
      },
    ))
    (λ left fewer list. absurd list)
    (λ left slot fewer free list. absurd list))))))))
by_event script s line (Act number) =
    outcome_has (Leaves s) s _ (refuses s)
    (if_some (Leaves s) (broadcast_of s number) _ _
    (λ broadcast opened. if_some (Leaves s) (slice_get broadcast.waiting 0) _ _
    (λ task first. if_some (Leaves s) (task_of s task) _ _
    (λ owner found. if_some (Leaves s) (numbered s.creds owner.current) _ _
    (λ old at. follows_plainly s broadcast task owner old (set_id old.cred broadcast.call))))))
by_event script s line (OpenFile hold place asked fd) =
    outcome_has (Leaves s) s _ (refuses s)
    (if_some (Leaves s) (held_by s hold) _ _
    (λ held is. if_none (Leaves s) (open_of s fd) _ _
    (λ new. if_passed (Leaves s) (checked held.cred (info_of s.inodes (place ∷ [])) asked) _
    (if_fewer (Leaves s) (length s.files) OPEN_FILES _ _ (λ list. absurd list)))))
by_event script s line (CloseFile fd) =
    outcome_has (Leaves s) s _ (refuses s)
    (if_some (Leaves s) (position (λ f. f.fd == fd) s.files) _ _
    (λ place at. if_some (Leaves s) (slice_get s.files place) _ _ (λ file is list. absurd list)))
by_event script s line (Spawn task child) =
    outcome_has (Leaves s) s _ (refuses s)
    (if_some (Leaves s) (task_of s task) _ _
    (λ owner found. if_some (Leaves s) (numbered s.creds owner.current) _ _
    (λ parent at. if_idle (Leaves s) (begun_by s task) _
    (λ idle. if_none (Leaves s) (task_of s child) _ _
    (λ new. if_own (Leaves s) owner _
    (if_fewer (Leaves s) (length s.tasks) TASKS _ _ (λ list. absurd list)))))))
by_event script s line (Fork task child process) =
    outcome_has (Leaves s) s _ (refuses s)
    (if_some (Leaves s) (task_of s task) _ _
    (λ owner found. if_some (Leaves s) (numbered s.creds owner.current) _ _
    (λ parent at. if_idle (Leaves s) (begun_by s task) _
    (λ idle. if_none (Leaves s) (task_of s child) _ _
    (λ new. if_none (Leaves s) (find (is_thread_of process) s.tasks) _ _
    (λ unused. if_own (Leaves s) owner _
    (if_fewer (Leaves s) (length s.tasks) TASKS _ _ (λ list. absurd list))))))))
by_event script s line (Exit task) =
    outcome_has (Leaves s) s _ (refuses s)
    (if_some (Leaves s) (task_of s task) _ _
    (λ owner is. if_idle (Leaves s) (begun_by s task) _
    (λ idle. if_own (Leaves s) owner _ (λ list. absurd list))))
by_event script s line Sweep = λ list. absurd list
by_event script s line (Dumpable task value) =
    outcome_has (Leaves s) s _ (refuses s)
    (if_some (Leaves s) (task_of s task) _ _
    (λ owner is. if_some (Leaves s) (flag_of_value value) _ _ (λ flag valid list. absurd list)))
by_event script s line (Dumped task) =
    outcome_has (Leaves s) s _ (refuses s)
    (if_some (Leaves s) (task_of s task) _ _ (λ owner is list. refl))
by_event script s line (Ptrace from hold to target mode) =
    outcome_has (Leaves s) s _ (refuses s)
    (if_some (Leaves s) (task_of s from) _ _
    (λ sender is. if_some (Leaves s) (task_of s to) _ _
    (λ receiver there. if_some (Leaves s) (held_by s hold) _ _
    (λ own held. if_some (Leaves s) (held_by s target) _ _
    (λ other at.
    if_last (Leaves s)
    (may_trace own.cred other.cred (sender.process == receiver.process)
    (reaches script.namespaces own.cred.ns other.cred.ns)
    (is_dumpable s.dumpable receiver.process) mode) _ _
    (λ list. refl))))))
by_event script s line (Chown hold place owner group) =
    files_plainly s (Chown hold place owner group) hold place
by_event script s line (Chmod hold place mode) = files_plainly s (Chmod hold place mode) hold place
by_event script s line (SetAttr hold place attr) =
    files_plainly s (SetAttr hold place attr) hold place
by_event script s line (Stat hold place) =
    outcome_has (Leaves s) s _ (refuses s)
    (if_some (Leaves s) (held_by s hold) _ _
    (λ held at. if_some (Leaves s) (slice_get s.inodes place) _ _ (λ file there list. refl)))
by_event script s line (Raw task call) =
    outcome_has (Leaves s) s _ (refuses s)
    (if_some (Leaves s) (task_of s task) _ _
    (λ owner found. if_some (Leaves s) (numbered s.creds owner.current) _ _
    (λ old at. if_idle (Leaves s) (broadcast_in s owner.process) _
    (λ idle. if_own (Leaves s) owner _
    (if_rule (Leaves s) (set_id old.cred call) _
    (λ new ruled.
    in_slots (Leaves s) s table_full
    (λ s slot. (
      Sealed (length s.creds) slot,
      record (replaced s task old.number new slot) {
        dumpable = renewed s.dumpable owner.process (differs old.cred new);
      },
    ))
    (λ left fewer list. absurd list)
    (λ left slot fewer free list. absurd list)))))))

-- an event that is answered with a list leaves the state
pub list_leaves : (script : Script) (s : State) (line : ℕ) (event : Event) → HoldsList (step script s line event).0 → (step script s line event).1 ≡ s
list_leaves script s line event = by_event script s line event

-- What is so where the event was made: the state after it is like the one before.
pub list_stays : (script : Script) (s after : State) (line : ℕ) (event : Event) (answer : Answer) → IsOutcomeLike (step script s line event) answer after
    → HoldsList answer → IsLike after s
list_stays script s after line event answer does list =
    subst (IsLike after) (list_leaves script s line event (subst HoldsList (sym does.answers) list)) does.leads
