-- The flags stay in order over each event.
use Rattle.std.proofs.Common.{◌≡◌, ◌==◌, ◌++◌, ◌∷◌, [], ℕ, List, length, map, find, is_some, Some, Bool, true, false, cond, refl, sym, ap, ◌∙◌, subst}
use Rattle.cred_record.specs.Credential.{Credential}
use Rattle.cred_event.specs.declared.event.Change.{Change}
use Rattle.cred_event.specs.declared.event.Change.TheVariants.{Exec}
use Rattle.cred_event.specs.declared.event.Event.{Event}
use Rattle.cred_event.specs.declared.answer.Answer.{Answer}
use Rattle.cred_model.specs.Script.{Script}
use Rattle.cred_model.specs.State.{State, Task, ProcessFlag, task_of}
use Rattle.cred_model.specs.Ends.{survivors}
use Rattle.cred_model.specs.Dumpable.{with_process_flag, set_flag, without_flag, flags_left, differs_by}
use Rattle.cred_model.specs.Moves.{first_task, overriding, updated, with_current}
use Rattle.cred_model.specs.LabelEvents.{ends_with}
use Rattle.cred_model.proofs.Numbers.{overriding_as, updated_as}
use Rattle.cred_model.proofs.Referred.{all_survive}
use Rattle.cred_sound.specs.Flags.{AreFlagged}
use Rattle.cred_sound.specs.Sound.{IsSound}
use Rattle.cred_sound.proofs.Parts.{TasksChange, Cause, Creation, Death, ByBegin, ByAct, ByRaw, ByCommit, BySpawn, ByFork, ByExit, ByAbort, SameTasks, SetsFlag}
use Rattle.cred_sound.proofs.Parts.{Creates, Shares, Renews, Overrides, Fewer}
use Rattle.cred_sound.proofs.Flags.{lives, flags_set, flags_renewed, flags_done, flags_kept, flags_joined, flags_more, flags_alone, flags_aborted, flags_exited}
use Rattle.cred_sound.proofs.Flags.{owner_lives}

-- so it is with these tasks and flags
settled : (tasks : List Task) (flags : List ProcessFlag) (t : State) → t.tasks ≡ tasks → t.dumpable ≡ flags → AreFlagged tasks flags
    → AreFlagged t.tasks t.dumpable
settled tasks flags t is are flagged =
    subst (λ ts. AreFlagged ts t.dumpable) (sym is) (subst (AreFlagged tasks) (sym are) flagged)

-- a task has another current credential
renewed_kept : (tasks : List Task) (flags : List ProcessFlag) (task n : ℕ) → AreFlagged tasks flags → AreFlagged (with_current tasks task n) flags
renewed_kept tasks flags task n =
    flags_kept (updated task n) tasks flags (λ t. updated_as (λ r. r.process ≡ t.process) task n t refl refl)

-- and no task ends
none_ends : (ends : Task → Bool) (tasks : List Task) (flags : List ProcessFlag) (task n : ℕ) → ends ≡ (λ t. false) → AreFlagged tasks flags
    → AreFlagged (with_current (survivors ends tasks) task n) flags
none_ends ends tasks flags task n none are =
    renewed_kept (survivors ends tasks) flags task n
    (subst (λ (f : Task → Bool). AreFlagged (survivors f tasks) flags) (sym none)
    (subst (λ ts. AreFlagged ts flags) (sym (all_survive tasks)) are))

-- a commit, by which the other threads of the process may end
committed_flags : (tasks : List Task) (flags : List ProcessFlag) (owner : Task) (task n : ℕ) (change : Change) (ends : Task → Bool)
    → ends ≡ ends_with change owner → find (λ t. t.number == task) tasks ≡ Some owner → AreFlagged tasks flags
    → AreFlagged (with_current (survivors ends tasks) task n) flags
committed_flags tasks flags owner task n (Exec file) ends is found are =
    renewed_kept (survivors ends tasks) flags task n
    (subst (λ (f : Task → Bool). AreFlagged (survivors f tasks) flags) (sym is) (flags_alone tasks flags owner task found are))
committed_flags tasks flags owner task n change ends is found are = none_ends ends tasks flags task n is are

renewed_flags : (s : State) (event : Event) (task : ℕ) (owner : Task) (ends : Task → Bool) (made : Answer × State) (c : Credential)
    → Cause s event task owner ends c made → task_of s task ≡ Some owner → AreFlagged s.tasks s.dumpable
    → AreFlagged (with_current (survivors ends s.tasks) task (length s.creds)) made.1.dumpable
renewed_flags s event task owner ends made c (ByBegin call before number slot is has ruled new idle none broadcasts answer flags) found are =
    let now = with_current (survivors ends s.tasks) task (length s.creds) in
    subst (AreFlagged now) (sym flags) (flags_renewed now s.dumpable owner.process _ (none_ends ends s.tasks s.dumpable task (length s.creds) none are))
renewed_flags s event task owner ends made c (ByAct number slot broadcast before is opened first has ruled none broadcasts answer flags) found are =
    let now = with_current (survivors ends s.tasks) task (length s.creds) in
    subst (AreFlagged now) (sym flags) (flags_renewed now s.dumpable owner.process _ (none_ends ends s.tasks s.dumpable task (length s.creds) none are))
renewed_flags s event task owner ends made c (ByRaw call before slot is has ruled idle none broadcasts answer flags) found are =
    let now = with_current (survivors ends s.tasks) task (length s.creds) in
    subst (AreFlagged now) (sym flags) (flags_renewed now s.dumpable owner.process _ (none_ends ends s.tasks s.dumpable task (length s.creds) none are))
renewed_flags s event task owner ends made c
    (ByCommit label place slot count p last is first at own changed same cred ending broadcasts answer flags) found are =
    let now = with_current (survivors ends s.tasks) task (length s.creds) in
    subst (AreFlagged now) (sym flags)
    (flags_done last.change last.gains now s.dumpable owner.process (differs_by s owner last)
    (committed_flags s.tasks s.dumpable owner task (length s.creds) last.change ends ending found are))

created_flags : (s : State) (event : Event) (task child process n : ℕ) (made : Answer × State) → Creation s event task child process made
    → AreFlagged s.tasks s.dumpable → AreFlagged (s.tasks ++ first_task child process n ∷ []) made.1.dumpable
created_flags s event task child process n made (BySpawn owner is found of broadcasts flags) are =
    let new = first_task child process n in
    subst (AreFlagged (s.tasks ++ new ∷ [])) (sym flags)
    (flags_joined s.tasks s.dumpable new (ap (lives s.tasks) of ∙ owner_lives s.tasks owner task found) are)
created_flags s event task child process n made (ByFork owner is found unused broadcasts flags) are =
    let new = first_task child process n in
    subst (AreFlagged (s.tasks ++ new ∷ [])) (sym flags) (flags_more s.tasks s.dumpable new _ (ap is_some unused) are)

fewer_flags : (s : State) (event : Event) (ends : Task → Bool) (made : Answer × State) → Death s event ends made → IsSound s
    → AreFlagged (survivors ends s.tasks) made.1.dumpable
fewer_flags s event ends made (ByExit task owner is found ending idle broadcasts flags) sound =
    subst (AreFlagged (survivors ends s.tasks)) (sym flags)
    (subst (λ (f : Task → Bool). AreFlagged (survivors f s.tasks) (flags_left s owner)) (sym ending)
    (flags_exited s.tasks s.dumpable owner task sound.tasks found sound.flags))
fewer_flags s event ends made (ByAbort number task cause broadcast is ending broadcasts answer flags) sound =
    subst (AreFlagged (survivors ends s.tasks)) (sym flags)
    (subst (λ (f : Task → Bool). AreFlagged (survivors f s.tasks) (without_flag s.dumpable broadcast.process)) (sym ending)
    (flags_aborted s.tasks s.dumpable broadcast.process sound.flags))

-- a first task
begun_flags : (s : State) (t : Task) → AreFlagged s.tasks s.dumpable
    → AreFlagged (s.tasks ++ t ∷ []) (cond (lives s.tasks t.process) s.dumpable (with_process_flag s.dumpable t.process true))
begun_flags s t are =
    elim (lives s.tasks t.process) as
    (λ b. lives s.tasks t.process ≡ b → AreFlagged (s.tasks ++ t ∷ []) (cond b s.dumpable (with_process_flag s.dumpable t.process true))) [
      | true ↦ λ live. flags_joined s.tasks s.dumpable t live are
      | false ↦ λ none. flags_more s.tasks s.dumpable t true none are
    ] refl

pub flags_after : {script : Script} → (s : State) (event : Event) (made : Answer × State) → TasksChange script s event made → IsSound s
    → AreFlagged made.1.tasks made.1.dumpable
flags_after s event made (SameTasks same broadcasts flags) sound = settled s.tasks s.dumpable made.1 same flags sound.flags
flags_after s event made (SetsFlag task value owner flag is found known same broadcasts flags) sound =
    settled s.tasks (set_flag s.dumpable owner.process flag) made.1 same flags (flags_set s.tasks s.dumpable owner.process flag sound.flags)
flags_after s event made (Creates task process user group ns slot is tasks creds new idle broadcasts flags) sound =
    settled _ _ made.1 tasks flags (begun_flags s (first_task task process (length s.creds)) sound.flags)
flags_after s event made (Shares task child process parent tasks creds current new creation) sound =
    settled _ made.1.dumpable made.1 tasks refl (created_flags s event task child process parent.number made creation sound.flags)
flags_after s event made (Renews task slot owner c ends tasks creds found cause) sound =
    settled _ made.1.dumpable made.1 tasks refl (renewed_flags s event task owner ends made c cause found sound.flags)
flags_after s event made (Overrides task numbers tasks refer broadcasts flags) sound =
    settled (map (overriding task numbers) s.tasks) s.dumpable made.1 tasks flags
    (flags_kept (overriding task numbers) s.tasks s.dumpable
    (λ t. overriding_as (λ r. r.process ≡ t.process) task numbers t refl refl) sound.flags)
flags_after s event made (Fewer ends tasks creds death) sound =
    settled _ made.1.dumpable made.1 tasks refl (fewer_flags s event ends made death sound)
