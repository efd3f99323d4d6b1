-- What each event changes.
use Rattle.std.proofs.Common.{◌≡◌, ◌==◌, ◌&&◌, ◌⊎◌, inl, inr, Bool, ℕ, List, [], ◌∷◌, ◌++◌, length, slice_get, slice_set, drop, Option, Some, None, true, false}
use Rattle.std.proofs.Common.{cond, refl, sym, subst, position}
use Rattle.std.specs.List.{All, Contains, count_by, remove}
use Rattle.std.specs.Option.{option_and_then}
use Rattle.std.proofs.lemmas.Bool.{eqb-true}
use Rattle.std.proofs.lemmas.List.Elements.{All-append, All-cons, All-contains_itself, All-drop, All-nil, All-weaker}
use Rattle.cred_ids.specs.Limits.{TASKS, OPEN_FILES, HOLDS, PREPARED, DEPTH}
use Rattle.cred_ids.specs.declared.arg.Arg.{Arg}
use Rattle.cred_record.specs.Credential.{Credential, first_credential}
use Rattle.cred_record.specs.File.{File}
use Rattle.cred_record.specs.declared.refusal.Denial.{Denial}
use Rattle.cred_record.specs.declared.want.Want.{Want}
use Rattle.cred_rules.specs.Access.{may_signal}
use Rattle.cred_rules.specs.Files.{chown, chmod, set_attr}
use Rattle.cred_event.specs.declared.event.Event.{Event}
use Rattle.cred_event.specs.declared.event.Event.TheVariants.{Init, Take, TakeFile, Release, Ask, Signal, Prepare, Alter, Commit, Abort, Override, Revert}
use Rattle.cred_event.specs.declared.event.Event.TheVariants.{Begin, Act, OpenFile, CloseFile, Spawn, Fork, Exit, Sweep, Dumpable, Dumped, Ptrace, Chown, Chmod}
use Rattle.cred_event.specs.declared.event.Event.TheVariants.{SetAttr, Stat, Raw}
use Rattle.cred_event.specs.declared.event.Change.{Change}
use Rattle.cred_event.specs.declared.event.Change.TheVariants.{Exec}
use Rattle.cred_record.specs.declared.mode.PtraceMode.{PtraceMode}
use Rattle.cred_event.specs.declared.event.Side.{Side}
use Rattle.cred_event.specs.declared.answer.Answer.{Answer}
use Rattle.cred_event.specs.declared.answer.Answer.TheVariants.{Done, Sealed, Kept, Told, Einval, Stale, TableFull}
use Rattle.cred_event.specs.declared.answer.Told.TheVariants as told
use Rattle.cred_model.specs.Script.{Script, chain_of, root_of, reaches}
use Rattle.cred_model.specs.State.{State, Task, OpenFile as Open, Hold, Prepared, Changed, Numbered, numbered, task_of, broadcast_in, begun_by, open_of}
use Rattle.cred_model.specs.State.{hold_of, prepared_of, held_by, opener_of, credential_of, info_of}
use Rattle.cred_model.specs.Slots.{refs}
use Rattle.cred_model.specs.Named.{change_files}
use Rattle.cred_model.specs.FileChanges.{changed_file, changed_by}
use Rattle.cred_model.specs.Answers.{checked}
use Rattle.cred_model.specs.Change.{by_change}
use Rattle.cred_model.specs.Ends.{ended}
use Rattle.cred_rules.specs.Ptrace.{may_trace}
use Rattle.cred_model.specs.Dumpable.{is_dumpable, set_flag, flags_begun, flags_committed, flag_of_value}
use Rattle.cred_model.specs.Moves.{table_full, with_overrides, with_override, overridden, with_change, first_task, created, preparing, committed, given_up}
use Rattle.cred_model.specs.LabelEvents.{ends_with, broadcasts_after, commit_answer, try_commit, take_hold, is_access, for_task, for_access, override_held}
use Rattle.cred_model.specs.LabelEvents.{override_prepared}
use Rattle.cred_model.specs.FileEvents.{by_file}
use Rattle.cred_model.specs.Step.{outcome, step}
use Rattle.cred_model.proofs.Lists.{All-at}
use Rattle.cred_sound.specs.SlotUse.{SealsOf}
use Rattle.cred_sound.proofs.References.{owner_stands, overrides_stand, credential_stands, opener_stands, held_by_stands, file_stands, found_stands}
use Rattle.cred_sound.proofs.References.{held_stands, base_stands}
use Rattle.cred_sound.proofs.Tests.{IfAllowed, outcome_has, if_some, if_none, if_either, if_fewer, if_passed, if_idle, if_own, if_last, if_ok, if_file_rule}
use Rattle.cred_sound.proofs.Tests.{in_slots}
use Rattle.cred_sound.proofs.Parts.{with_left, Old, OldOrNew, grows, broadcasts_left, Changes, Seals, OfFirst, OfLabel, ByCommit, SetsFlag, Creates, Renews}
use Rattle.cred_sound.proofs.Parts.{Overrides, Stays, Adds, Removes, Prepares, Alters, Ends, SameInodes, Writes}
use Rattle.cred_sound.proofs.OnePart.{still_left, gives_up, fits_own, still, refused, with_tasks, only_tasks, with_lists, with_prepared, only_inodes}
use Rattle.cred_sound.proofs.Calls.{ended_stay, begin_changes, act_changes, raw_changes, spawn_changes, fork_changes, exit_changes}

-- ---- the events

init_changes : (script : Script) (s : State) (line task process user group ns : ℕ)
    → Changes script s (Init task process user group ns) (step script s line (Init task process user group ns))
init_changes script s line task process user group ns =
    let event = Init task process user group ns in
    let Q = Changes script s event in
    let first = first_task task process (length s.creds) in
    let c = first_credential user group ns (root_of script ns) in
    outcome_has Q s _ (refused script s event)
    (if_idle Q (broadcast_in s process) _
    (λ idle. if_none Q (task_of s task) _ _
    (λ new. if_fewer Q (length s.tasks) TASKS _ _
    (in_slots Q s table_full
    (λ s slot. (Sealed (length s.creds) slot, record (created s (first_task task process (length s.creds)) c slot) { dumpable = flags_begun s process }))
    (still script s event TableFull)
    (λ left slot fewer free.
    with_tasks script s event (Sealed (length s.creds) slot) left (s.tasks ++ first ∷ []) s.broadcasts (flags_begun s process) c slot left fewer free
    (OfFirst user group ns (root_of script ns) refl)
    (Creates task process user group ns slot refl refl refl new idle refl refl) (still_left s left))))))

-- a label takes hold of what is referred to
takes_hold : (script : Script) (s : State) (event : Event) (label : ℕ) (taken : Numbered) → Contains (refs s) taken.number
    → IfAllowed (Changes script s event) (take_hold s label taken)
takes_hold script s event label taken stands =
    let Q = Changes script s event in
    let hold : Hold = record { label = label; number = taken.number } in
    if_none Q (hold_of s label) _ _
    (λ new. if_none Q (prepared_of s label) _ _
    (λ unprepared. if_fewer Q (length s.holds) HOLDS _ _
    (with_lists script s event (Sealed taken.number taken.slot) s.files (s.holds ++ hold ∷ []) s.deferred (Stays refl)
    (Adds hold refl new (unprepared, stands)) (still_left s s.deferred))))

take_changes : (script : Script) (s : State) (line label task : ℕ) (side : Side)
    → Changes script s (Take label task side) (step script s line (Take label task side))
take_changes script s line label task side =
    let event = Take label task side in
    let Q = Changes script s event in
    outcome_has Q s _ (refused script s event)
    (if_some Q (credential_of s task side) _ _
    (λ taken is. takes_hold script s event label taken (credential_stands s task side taken is)))

take_file_changes : (script : Script) (s : State) (line label fd : ℕ)
    → Changes script s (TakeFile label fd) (step script s line (TakeFile label fd))
take_file_changes script s line label fd =
    let event = TakeFile label fd in
    let Q = Changes script s event in
    outcome_has Q s _ (refused script s event)
    (if_some Q (opener_of s fd) _ _
    (λ taken is. takes_hold script s event label taken (opener_stands s fd taken is)))

release_changes : (script : Script) (s : State) (line label : ℕ) → Changes script s (Release label) (step script s line (Release label))
release_changes script s line label =
    let event = Release label in
    let Q = Changes script s event in
    outcome_has Q s _ (refused script s event)
    (if_some Q (position (λ h. h.label == label) s.holds) _ _
    (λ place at. if_some Q (slice_get s.holds place) _ _
    (λ hold is.
    with_lists script s event Done s.files (remove s.holds place) (s.deferred ++ hold.number ∷ []) (Stays refl)
    (Removes label place hold refl refl at is) (gives_up s hold.number (held_stands s place hold is)))))

open_changes : (script : Script) (s : State) (line hold place : ℕ) (asked : Want) (fd : ℕ)
    → Changes script s (OpenFile hold place asked fd) (step script s line (OpenFile hold place asked fd))
open_changes script s line hold place asked fd =
    let event = OpenFile hold place asked fd in
    let Q = Changes script s event in
    outcome_has Q s _ (refused script s event)
    (if_some Q (held_by s hold) _ _
    (λ held is. if_none Q (open_of s fd) _ _
    (λ new. if_passed Q (checked held.cred (info_of s.inodes (place ∷ [])) asked) _
    (if_fewer Q (length s.files) OPEN_FILES _ _
    (let file : Open = record { fd = fd; opener = held.number; file = place } in
    with_lists script s event Done (s.files ++ file ∷ []) s.holds s.deferred
    (Adds file refl new (held_by_stands s hold held is)) (Stays refl) (still_left s s.deferred))))))

close_changes : (script : Script) (s : State) (line fd : ℕ) → Changes script s (CloseFile fd) (step script s line (CloseFile fd))
close_changes script s line fd =
    let event = CloseFile fd in
    let Q = Changes script s event in
    outcome_has Q s _ (refused script s event)
    (if_some Q (position (λ f. f.fd == fd) s.files) _ _
    (λ place at. if_some Q (slice_get s.files place) _ _
    (λ file is.
    with_lists script s event Done (remove s.files place) s.holds (s.deferred ++ file.opener ∷ [])
    (Removes fd place file refl refl at is) (Stays refl) (gives_up s file.opener (file_stands s place file is)))))

signal_changes : (script : Script) (s : State) (line from hold to target : ℕ)
    → Changes script s (Signal from hold to target) (step script s line (Signal from hold to target))
signal_changes script s line from hold to target =
    let event = Signal from hold to target in
    let Q = Changes script s event in
    outcome_has Q s _ (refused script s event)
    (if_some Q (task_of s from) _ _
    (λ sender is. if_some Q (task_of s to) _ _
    (λ receiver there. if_some Q (held_by s hold) _ _
    (λ own held. if_some Q (held_by s target) _ _
    (λ other at. if_last Q (may_signal own.cred other.cred (sender.process == receiver.process)) _ _
    (refused script s event Done))))))

prepare_changes : (script : Script) (s : State) (line label task hold : ℕ)
    → Changes script s (Prepare label task hold) (step script s line (Prepare label task hold))
prepare_changes script s line label task hold =
    let event = Prepare label task hold in
    let Q = Changes script s event in
    let new_label : ℕ → ℕ → Prepared
    = λ slot base. record { label = label; task = task; base = base; slot = slot; changed = None } in
    outcome_has Q s _ (refused script s event)
    (if_some Q (task_of s task) _ _
    (λ owner is. if_idle Q (begun_by s task) _
    (λ idle. if_some Q (hold_of s hold) _ _
    (λ base held. if_none Q (hold_of s label) _ _
    (λ new. if_none Q (prepared_of s label) _ _
    (λ unprepared. if_fewer Q (length s.prepared) PREPARED _ _
    (in_slots Q s table_full (λ s slot. (Kept slot, preparing s (new_label slot base.number)))
    (still script s event TableFull)
    (λ left slot fewer free.
    with_prepared script s event (Kept slot) left (s.prepared ++ new_label slot base.number ∷ []) left fewer
    (Prepares (new_label slot base.number) refl refl new unprepared (found_stands (with_left s left) hold base held) free)
    (still_left s left)))))))))

alter_changes : (script : Script) (s : State) (line label : ℕ) (change : Change)
    → Changes script s (Alter label change) (step script s line (Alter label change))
alter_changes script s line label change =
    let event = Alter label change in
    let Q = Changes script s event in
    outcome_has Q s _ (refused script s event)
    (if_some Q (prepared_of s label) _ _
    (λ p is. if_some Q (numbered s.creds p.base) _ _
    (λ base at. if_ok Q (by_change (info_of s.inodes (change_files change)) (chain_of script base.cred.ns) base.cred change) _
    (λ made so.
    let to : Changed = record { change = change; cred = made.cred; gains = made.gains } in
    with_prepared script s event made.answer s.deferred (with_change s.prepared label to) s.deferred (All-contains_itself s.deferred)
    (Alters label to p base made.answer refl is at so refl) (still_left s s.deferred)))))

-- what a label prepared is given up, by its abort or by a commit that is stale
gives_up_prepared : (script : Script) (s : State) (event : Event) (answer : Answer) (label place : ℕ) (p : Prepared)
    → SealsOf event label ⊎ (event ≡ Abort label) → position (λ p. p.label == label) s.prepared ≡ Some place
    → slice_get s.prepared place ≡ Some p → Changes script s event (answer, given_up s place p)
gives_up_prepared script s event answer label place p ends at is =
    with_prepared script s event answer s.deferred (remove s.prepared place) (s.deferred ++ p.base ∷ []) (All-contains_itself s.deferred)
    (Ends label place p ends refl at is) (gives_up s p.base (base_stands s place p is))

only_broadcasts : (change : Change) (owner : Task) (t : State)
    → broadcasts_after change owner t ≡ record t { broadcasts = broadcasts_left change owner t.broadcasts }
only_broadcasts (Exec file) owner t = refl
only_broadcasts change owner t = refl

commit_fresh : (script : Script) (s : State) (label place : ℕ) (p : Prepared) (last : Changed) (owner : Task)
    → position (λ p. p.label == label) s.prepared ≡ Some place → slice_get s.prepared place ≡ Some p
    → p.changed ≡ Some last → task_of s p.task ≡ Some owner → owner.current ≡ p.base
    → let ends = ends_with last.change owner in
    Changes script s (Commit label) (
      commit_answer last (length s.creds) p.slot (count_by ends s.tasks),
      record (broadcasts_after last.change owner (committed (ended ends s) place p owner.current last.cred)) { dumpable = flags_committed s owner last },
    )
commit_fresh script s label place p last owner at is changed found same =
    let Has = Contains (refs s) in
    let ends = ends_with last.change owner in
    let now = committed (ended ends s) place p owner.current last.cred in
    let answer = commit_answer last (length s.creds) p.slot (count_by ends s.tasks) in
    let flags = flags_committed s owner last in
    let t = record now { broadcasts = broadcasts_left last.change owner now.broadcasts; dumpable = flags } in
    subst (λ t. Changes script s (Commit label) (answer, record t { dumpable = flags })) (sym (only_broadcasts last.change owner now)) (record {
      left = s.deferred;
      fewer = All-contains_itself s.deferred;
      tasks = Renews p.task p.slot owner last.cred ends refl refl found
          (ByCommit label place p.slot (count_by ends s.tasks) p last refl at is refl changed same refl refl refl refl refl);
      files = Stays refl;
      holds = Stays refl;
      prepared = Ends label place p (inl refl) refl at is;
      creds = Seals last.cred p.slot refl (fits_own s (Commit label) t label place p refl refl at is) (OfLabel place p last is changed refl);
      inodes = SameInodes refl;
      deferred = All-append Has (ended ends s).deferred (owner.current ∷ p.base ∷ []) (ended_stay s ends)
          (All-cons Has owner.current (p.base ∷ []) (owner_stands s p.task owner found)
          (All-cons Has p.base [] (base_stands s place p is) (All-nil Has)));
    })

try_commit_changes : (script : Script) (s : State) (label place : ℕ) (p : Prepared) (last : Changed) (owner : Task)
    → position (λ p. p.label == label) s.prepared ≡ Some place → slice_get s.prepared place ≡ Some p
    → p.changed ≡ Some last → task_of s p.task ≡ Some owner
    → Changes script s (Commit label) (try_commit s place p owner last)
try_commit_changes script s label place p last owner at is changed found =
    let ends = ends_with last.change owner in
    elim (owner.current == p.base) as
    (λ b. (b ≡ true → owner.current ≡ p.base) → Changes script s (Commit label) (cond {A = Answer × State} b (
      commit_answer last (length s.creds) p.slot (count_by ends s.tasks),
      record (broadcasts_after last.change owner (committed (ended ends s) place p owner.current last.cred)) { dumpable = flags_committed s owner last },
    ) (Stale p.base owner.current, given_up s place p))) [
      | true ↦ λ same. commit_fresh script s label place p last owner at is changed found (same refl)
      | false ↦ λ same. gives_up_prepared script s (Commit label) (Stale p.base owner.current) label place p (inl refl) at is
    ] (eqb-true owner.current p.base)

-- what is committed is what was changed last
pub changed_for_task : (changed : Option Changed) (last : Changed) → option_and_then for_task changed ≡ Some last → changed ≡ Some last
changed_for_task None last is = cc
changed_for_task (Some x) last is =
    elim (is_access x.change) as (λ b. cond b None (Some x) ≡ Some last → Some x ≡ Some last) [
      | true ↦ λ none. absurd (cc)
      | false ↦ λ same. same
    ] is

commit_changes : (script : Script) (s : State) (line label : ℕ) → Changes script s (Commit label) (step script s line (Commit label))
commit_changes script s line label =
    let Q = Changes script s (Commit label) in
    outcome_has Q s _ (refused script s (Commit label))
    (if_some Q (position (λ p. p.label == label) s.prepared) _ _
    (λ place at. if_some Q (slice_get s.prepared place) _ _
    (λ p is. if_some Q (option_and_then for_task p.changed) _ _
    (λ last changed. if_some Q (task_of s p.task) _ _
    (λ owner found. if_idle Q (begun_by s p.task) _
    (λ idle. if_own Q owner _
    (try_commit_changes script s label place p last owner at is (changed_for_task p.changed last changed) found)))))))

abort_changes : (script : Script) (s : State) (line label : ℕ) → Changes script s (Abort label) (step script s line (Abort label))
abort_changes script s line label =
    let Q = Changes script s (Abort label) in
    outcome_has Q s _ (refused script s (Abort label))
    (if_some Q (position (λ p. p.label == label) s.prepared) _ _
    (λ place at. if_some Q (slice_get s.prepared place) _ _
    (λ p is. gives_up_prepared script s (Abort label) Done label place p (inr refl) at is)))

-- ---- overrides

-- what a task's overrides refer to stands
own_overrides : (s : State) (t : State) (task : ℕ) (owner : Task) → task_of s task ≡ Some owner → (left : List ℕ)
    → All (OldOrNew s left t) owner.overrides
own_overrides s t task owner is left =
    All-weaker (Old s left) (OldOrNew s left t) (λ n has. inl has) owner.overrides (overrides_stand (with_left s left) task owner is)

override_held_has : (script : Script) (s : State) (event : Event) (task label : ℕ) (owner : Task) (held : Numbered)
    → task_of s task ≡ Some owner → held_by s label ≡ Some held
    → IfAllowed (Changes script s event) (override_held s owner held)
override_held_has script s event task label owner held found is =
    let Q = Changes script s event in
    let t = with_override s owner held.number in
    if_fewer Q (length owner.overrides) DEPTH _ _
    (only_tasks script s event (Sealed held.number held.slot) s.deferred t.tasks s.broadcasts s.dumpable s.deferred (All-contains_itself s.deferred)
    (Overrides owner.number (held.number ∷ owner.overrides) refl
    (λ left. All-cons (OldOrNew s left t) held.number owner.overrides (inl (held_by_stands (with_left s left) label held is))
    (own_overrides s t task owner found left)) refl refl)
    (still_left s s.deferred))

-- what is lent for access(2) is what was changed last
kept_some : (test : Changed → Bool) (changed : Option Changed) (last : Changed)
    → option_and_then (λ x. cond (test x) (Some x) None) changed ≡ Some last → changed ≡ Some last
kept_some test None last is = cc
kept_some test (Some x) last is =
    elim (test x) as (λ b. cond b (Some x) None ≡ Some last → Some x ≡ Some last) [
      | true ↦ λ same. same
      | false ↦ λ none. absurd (cc)
    ] is

changed_for_access : (task : ℕ) (p : Prepared) (last : Changed) → for_access task p ≡ Some last → p.changed ≡ Some last
changed_for_access task p last = kept_some (λ x. (p.task == task) && is_access x.change) p.changed last

override_prepared_has : (script : Script) (s : State) (task label : ℕ) (owner : Task) → task_of s task ≡ Some owner
    → IfAllowed (Changes script s (Override task label)) (override_prepared s owner label)
override_prepared_has script s task label owner found =
    let event = Override task label in
    let Q = Changes script s event in
    if_some Q (position (λ p. p.label == label) s.prepared) _ _
    (λ place at. if_some Q (slice_get s.prepared place) _ _
    (λ p is. if_some Q (for_access owner.number p) _ _
    (λ last changed. if_fewer Q (length owner.overrides) DEPTH _ _
    (let t = overridden s place p owner last.cred in
    record {
      left = s.deferred;
      fewer = All-contains_itself s.deferred;
      tasks = Overrides owner.number (length s.creds ∷ owner.overrides) refl
          (λ left. All-cons (OldOrNew s left t) (length s.creds) owner.overrides (inr (grows s t _ refl))
          (own_overrides s t task owner found left)) refl refl;
      files = Stays refl;
      holds = Stays refl;
      prepared = Ends label place p (inl refl) refl at is;
      creds = Seals last.cred p.slot refl (fits_own s event t label place p refl refl at is)
          (OfLabel place p last is (changed_for_access owner.number p last changed) refl);
      inodes = SameInodes refl;
      deferred = gives_up s p.base (base_stands s place p is);
    }))))

override_changes : (script : Script) (s : State) (line task label : ℕ)
    → Changes script s (Override task label) (step script s line (Override task label))
override_changes script s line task label =
    let event = Override task label in
    let Q = Changes script s event in
    outcome_has Q s _ (refused script s event)
    (if_some Q (task_of s task) _ _
    (λ owner found. if_either Q (held_by s label) _ _
    (λ held is. override_held_has script s event task label owner held found is)
    (λ none. override_prepared_has script s task label owner found)))

revert_changes : (script : Script) (s : State) (line task : ℕ) → Changes script s (Revert task) (step script s line (Revert task))
revert_changes script s line task =
    let event = Revert task in
    let Q = Changes script s event in
    outcome_has Q s _ (refused script s event)
    (if_some Q (task_of s task) _ _
    (λ owner found. if_some Q (slice_get owner.overrides 0) _ _
    (λ newest is.
    let tasks = with_overrides s.tasks task (drop 1 owner.overrides) in
    let deferred = s.deferred ++ newest ∷ [] in
    let t = record s { tasks = tasks; deferred = deferred } in
    only_tasks script s event Done s.deferred tasks s.broadcasts s.dumpable deferred (All-contains_itself s.deferred)
    (Overrides task (drop 1 owner.overrides) refl
    (λ left. All-drop (OldOrNew s left t) 1 owner.overrides (own_overrides s t task owner found left)) refl refl)
    (gives_up s newest (All-at (Contains (refs s)) owner.overrides 0 newest is (overrides_stand s task owner found))))))

dumpable_changes : (script : Script) (s : State) (line task value : ℕ)
    → Changes script s (Dumpable task value) (step script s line (Dumpable task value))
dumpable_changes script s line task value =
    let event = Dumpable task value in
    let Q = Changes script s event in
    outcome_has Q s _ (refused script s event)
    (if_some Q (task_of s task) _ _
    (λ owner found. if_some Q (flag_of_value value) _ _
    (λ flag is.
    only_tasks script s event Done s.deferred s.tasks s.broadcasts (set_flag s.dumpable owner.process flag) s.deferred (All-contains_itself s.deferred)
    (SetsFlag task value owner flag refl found is refl refl refl) (still_left s s.deferred))))

dumped_changes : (script : Script) (s : State) (line task : ℕ) → Changes script s (Dumped task) (step script s line (Dumped task))
dumped_changes script s line task =
    let event = Dumped task in
    outcome_has (Changes script s event) s _ (refused script s event)
    (if_some _ (task_of s task) _ _ (λ owner found. refused script s event _))

ptrace_changes : (script : Script) (s : State) (line from hold to target : ℕ) (mode : PtraceMode)
    → Changes script s (Ptrace from hold to target mode) (step script s line (Ptrace from hold to target mode))
ptrace_changes script s line from hold to target mode =
    let event = Ptrace from hold to target mode in
    let Q = Changes script s event in
    outcome_has Q s _ (refused script s event)
    (if_some Q (task_of s from) _ _
    (λ sender is. if_some Q (task_of s to) _ _
    (λ receiver there. if_some Q (held_by s hold) _ _
    (λ own held. if_some Q (held_by s target) _ _
    (λ other at.
    if_last Q
    (may_trace own.cred other.cred (sender.process == receiver.process) (reaches script.namespaces own.cred.ns other.cred.ns)
    (is_dumpable s.dumpable receiver.process) mode)
    _ _
    (refused script s event Done))))))

-- a file is changed, by one of the three calls
file_changes : (script : Script) (s : State) (event : Event) (hold place : ℕ) → changed_file event ≡ Some place
    → Changes script s event (outcome s (by_file s hold place (changed_by event)))
file_changes script s event hold place is =
    let Q = Changes script s event in
    outcome_has Q s _ (refused script s event)
    (if_some Q (held_by s hold) _ _
    (λ held at. if_some Q (slice_get s.inodes place) _ _
    (λ old there. if_file_rule Q (changed_by event held.cred old) _
    (λ new ruled.
    only_inodes script s event Done (slice_set s.inodes place new) (Writes place held old new is there ruled refl refl)))))

stat_changes : (script : Script) (s : State) (line hold place : ℕ) → Changes script s (Stat hold place) (step script s line (Stat hold place))
stat_changes script s line hold place =
    let event = Stat hold place in
    let Q = Changes script s event in
    outcome_has Q s _ (refused script s event)
    (if_some Q (held_by s hold) _ _
    (λ held at. if_some Q (slice_get s.inodes place) _ _ (λ file there. refused script s event _)))

-- what an event changes
pub changes : (script : Script) (s : State) (line : ℕ) (event : Event) → Changes script s event (step script s line event)
changes script s line (Init task process user group ns) = init_changes script s line task process user group ns
changes script s line (Take label task side) = take_changes script s line label task side
changes script s line (TakeFile label fd) = take_file_changes script s line label fd
changes script s line (Release label) = release_changes script s line label
changes script s line (Ask label query) =
    outcome_has (Changes script s (Ask label query)) s _ (refused script s (Ask label query))
    (if_some _ (held_by s label) _ _ (λ held is. refused script s (Ask label query) _))
changes script s line (Signal from hold to target) = signal_changes script s line from hold to target
changes script s line (Prepare label task hold) = prepare_changes script s line label task hold
changes script s line (Alter label change) = alter_changes script s line label change
changes script s line (Commit label) = commit_changes script s line label
changes script s line (Abort label) = abort_changes script s line label
changes script s line (Override task label) = override_changes script s line task label
changes script s line (Revert task) = revert_changes script s line task
changes script s line (Begin task call) = begin_changes script s line task call
changes script s line (Act number) = act_changes script s line number
changes script s line (OpenFile hold place asked fd) = open_changes script s line hold place asked fd
changes script s line (CloseFile fd) = close_changes script s line fd
changes script s line (Spawn task child) = spawn_changes script s line task child
changes script s line (Fork task child process) = fork_changes script s line task child process
changes script s line (Exit task) = exit_changes script s line task
changes script s line (Dumpable task value) = dumpable_changes script s line task value
changes script s line (Dumped task) = dumped_changes script s line task
changes script s line (Ptrace from hold to target mode) = ptrace_changes script s line from hold to target mode
changes script s line (Chown hold place owner group) = file_changes script s (Chown hold place owner group) hold place refl
changes script s line (Chmod hold place mode) = file_changes script s (Chmod hold place mode) hold place refl
changes script s line (SetAttr hold place attr) = file_changes script s (SetAttr hold place attr) hold place refl
changes script s line (Stat hold place) = stat_changes script s line hold place
changes script s line (Raw task call) = raw_changes script s line task call
changes script s line Sweep = still script s Sweep Done [] (All-nil (Contains s.deferred))
