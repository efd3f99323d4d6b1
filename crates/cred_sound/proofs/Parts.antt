-- What an event may change, part by part.
use Rattle.std.proofs.Common.{◌≡◌, ◌≢◌, ◌==◌, ◌-◌, ◌⊎◌, Bool, false, ℕ, ◌<◌, List, [], ◌∷◌, ◌++◌, length, slice_get, slice_set, Some, None, Ok, position, refl}
use Rattle.std.proofs.Common.{ap, arith}
use Rattle.std.specs.List.{All, Contains, find, remove}
use Rattle.std.proofs.lemmas.List.{length_push}
use Rattle.cred_ids.specs.Limits.{SLOTS}
use Rattle.cred_record.specs.Credential.{Credential, first_credential}
use Rattle.cred_record.specs.File.{File}
use Rattle.cred_record.specs.declared.id_call.IdCall.{IdCall}
use Rattle.cred_rules.specs.SetId.{set_id}
use Rattle.cred_event.specs.declared.event.Event.{Event}
use Rattle.cred_event.specs.declared.event.Event.TheVariants.{Init, Release, Alter, Commit, Abort, Begin, Act, CloseFile, Spawn, Fork, Exit, Dumpable, Raw}
use Rattle.cred_event.specs.declared.event.Change.{Change}
use Rattle.cred_event.specs.declared.event.Change.TheVariants.{Exec}
use Rattle.cred_event.specs.declared.answer.Answer.{Answer}
use Rattle.cred_event.specs.declared.answer.Answer.TheVariants.{Done, Sealed, Began, Acted, Aborted}
use Rattle.cred_event.specs.declared.answer.AbortCause.{AbortCause}
use Rattle.cred_model.specs.Script.{Script, chain_of, root_of}
use Rattle.cred_model.specs.State.{State, SealedCred, Task, Broadcast, OpenFile, Hold, Prepared, Changed, Numbered, numbered, task_of, broadcast_of}
use Rattle.cred_model.specs.State.{broadcast_in, begun_by, hold_of, prepared_of, current_of, info_of}
use Rattle.cred_model.specs.Slots.{refs, kept}
use Rattle.cred_model.specs.Named.{change_files}
use Rattle.cred_model.specs.FileChanges.{changed_file, changed_by}
use Rattle.cred_model.specs.Change.{by_change}
use Rattle.cred_model.specs.Ends.{is_task, is_thread_of, survivors}
use Rattle.cred_model.specs.Dumpable.{is_dumpable, with_process_flag, set_flag, without_flag, differs, renewed, flags_committed, flags_begun, flags_left}
use Rattle.cred_model.specs.Dumpable.{flag_of_value}
use Rattle.cred_model.specs.Broadcasts.{others_of, with_broadcast, waits_no_more, joined, dropped}
use Rattle.cred_model.specs.Moves.{with_change, with_current, with_overrides, first_task}
use Rattle.cred_model.specs.LabelEvents.{commit_answer, ends_with}
use Rattle.cred_sound.specs.SlotUse.{IsClear, IsOrderly, SealsOf, slot_use}
use Rattle.cred_sound.proofs.References.{IsFree}

-- The state, where only these of the deferred references are left: an event that takes a slot may
-- sweep first.
abbrev pub with_left : State → List ℕ → State
with_left s left = record s { deferred = left }

abbrev pub sealed_cred : Credential → ℕ → SealedCred
sealed_cred c slot = record { cred = c; slot = slot }

-- Nothing that is referred to stands in the slot, and no label keeps it: before the event none but
-- the one whose credential it seals, and none after it.
pub record Fits (s : State) (event : Event) (left : List ℕ) (t : State) (slot : ℕ) : Type 0 where
  pub below : slot < SLOTS
  pub clear : IsClear (slot_use s).slots slot (refs (with_left s left))
  pub unkept : All (λ k. k ≢ slot) (kept t)
  pub own : All (λ p. p.slot ≡ slot → SealsOf event p.label) s.prepared

-- Where a new credential comes from: a first task has it, a call makes it of a task's current one,
-- or a label prepared it.
pub data Origin (s : State) (c : Credential) : Type 0 where
  OfFirst : (user group ns root : ℕ) → c ≡ first_credential user group ns root → Origin s c
  OfCall : (task : ℕ) (before : Numbered) (call : IdCall) → current_of s task ≡ Some before → set_id before.cred call ≡ Ok c → Origin s c
  OfLabel : (place : ℕ) (p : Prepared) (last : Changed) → slice_get s.prepared place ≡ Some p → p.changed ≡ Some last → c ≡ last.cred
      → Origin s c

-- The sealed credentials: as they were, or one more.
pub data CredsChange (s : State) (event : Event) (left : List ℕ) (t : State) : Type 0 where
  SameCreds : t.creds ≡ s.creds → CredsChange s event left t
  Seals : (c : Credential) (slot : ℕ) → t.creds ≡ s.creds ++ sealed_cred c slot ∷ []
      → (IsOrderly (slot_use s) → Fits s event left t slot) → Origin s c → CredsChange s event left t

-- one of the references before the event, or the number of a credential that it sealed
abbrev pub Old : State → List ℕ → ℕ → Type 0
Old s left n = Contains (refs (with_left s left)) n

abbrev pub IsNew : State → State → ℕ → Type 0
IsNew s t n = (n ≡ length s.creds) × (length s.creds < length t.creds)

abbrev pub OldOrNew : State → List ℕ → State → ℕ → Type 0
OldOrNew s left t n = Old s left n ⊎ IsNew s t n

pub grows : (s t : State) (new : SealedCred) → t.creds ≡ s.creds ++ new ∷ [] → IsNew s t (length s.creds)
grows s t new creds =
    let long = ap (λ (xs : List SealedCred). length xs) creds in (refl, omega (arith, length_push s.creds new))

-- the call of a thread, which the others of its process are to follow
abbrev pub begun : ℕ → Task → IdCall → List Task → Broadcast
begun number owner call tasks = record {
  number = number;
  process = owner.process;
  caller = owner.number;
  call = call;
  waiting = others_of owner tasks;
}

-- the broadcasts that are left where this change is committed
abbrev pub broadcasts_left : Change → Task → List Broadcast → List Broadcast
broadcasts_left (Exec file) owner broadcasts = dropped owner.process broadcasts
broadcasts_left change owner broadcasts = broadcasts

-- Why a task's new credential comes in the place of its old one, and what becomes of the broadcasts
-- and of its process's flag: it is what a call makes of that, the task's own or one that it follows, or what a
-- label prepared.
pub data Cause (s : State) (event : Event) (task : ℕ) (owner : Task) (ends : Task → Bool) (c : Credential) (made : Answer × State) : Type 0 where
  ByBegin : (call : IdCall) (before : Numbered) (number slot : ℕ) → event ≡ Begin task call → current_of s task ≡ Some before
      → set_id before.cred call ≡ Ok c → broadcast_of s number ≡ None → broadcast_in s owner.process ≡ None → ends ≡ (λ t. false)
      → made.1.broadcasts ≡ with_broadcast s.broadcasts (begun number owner call s.tasks)
      → made.0 ≡ Began (length s.creds) slot (length (others_of owner s.tasks))
      → made.1.dumpable ≡ renewed s.dumpable owner.process (differs before.cred c) → Cause s event task owner ends c made
  ByAct : (number slot : ℕ) (broadcast : Broadcast) (before : Numbered) → event ≡ Act number → broadcast_of s number ≡ Some broadcast
      → slice_get broadcast.waiting 0 ≡ Some task → current_of s task ≡ Some before → set_id before.cred broadcast.call ≡ Ok c
      → ends ≡ (λ t. false) → made.1.broadcasts ≡ waits_no_more task s.broadcasts
      → made.0 ≡ Acted task (length s.creds) slot (length broadcast.waiting - 1)
      → made.1.dumpable ≡ renewed s.dumpable owner.process (differs before.cred c) → Cause s event task owner ends c made
  ByRaw : (call : IdCall) (before : Numbered) (slot : ℕ) → event ≡ Raw task call → current_of s task ≡ Some before
      → set_id before.cred call ≡ Ok c → broadcast_in s owner.process ≡ None → ends ≡ (λ t. false) → made.1.broadcasts ≡ s.broadcasts
      → made.0 ≡ Sealed (length s.creds) slot → made.1.dumpable ≡ renewed s.dumpable owner.process (differs before.cred c)
      → Cause s event task owner ends c made
  ByCommit : (label place slot count : ℕ) (p : Prepared) (last : Changed) → event ≡ Commit label
      → position (λ p. p.label == label) s.prepared ≡ Some place → slice_get s.prepared place ≡ Some p → p.task ≡ task
      → p.changed ≡ Some last → owner.current ≡ p.base → c ≡ last.cred → ends ≡ ends_with last.change owner
      → made.1.broadcasts ≡ broadcasts_left last.change owner s.broadcasts → made.0 ≡ commit_answer last (length s.creds) slot count
      → made.1.dumpable ≡ flags_committed s owner last → Cause s event task owner ends c made

-- How a task is created that shares its parent's credential: as a thread of its process, which
-- waits where it waits, or as the first of another process.
pub data Creation (s : State) (event : Event) (task child process : ℕ) (made : Answer × State) : Type 0 where
  BySpawn : (owner : Task) → event ≡ Spawn task child → task_of s task ≡ Some owner → process ≡ owner.process
      → made.1.broadcasts ≡ joined task child s.broadcasts → made.1.dumpable ≡ s.dumpable → Creation s event task child process made
  ByFork : (owner : Task) → event ≡ Fork task child process → task_of s task ≡ Some owner → find (is_thread_of process) s.tasks ≡ None
      → made.1.broadcasts ≡ s.broadcasts → made.1.dumpable ≡ with_process_flag s.dumpable process (is_dumpable s.dumpable owner.process)
      → Creation s event task child process made

-- How tasks end, and no other has a new credential: a task exits, or all threads of a process end,
-- as one of them can't follow.
pub data Death (s : State) (event : Event) (ends : Task → Bool) (made : Answer × State) : Type 0 where
  ByExit : (task : ℕ) (owner : Task) → event ≡ Exit task → task_of s task ≡ Some owner → ends ≡ is_task task → begun_by s task ≡ None
      → made.1.broadcasts ≡ waits_no_more task s.broadcasts → made.1.dumpable ≡ flags_left s owner → Death s event ends made
  ByAbort : (number task : ℕ) (cause : AbortCause) (broadcast : Broadcast) → event ≡ Act number → ends ≡ is_thread_of broadcast.process
      → made.1.broadcasts ≡ dropped broadcast.process s.broadcasts → made.0 ≡ Aborted task cause
      → made.1.dumpable ≡ without_flag s.dumpable broadcast.process → Death s event ends made

-- The tasks, the broadcasts and the flags of the processes: as they were, one flag that a task sets,
-- a first task more, one more that shares its parent's credential, one of them with a new
-- credential, perhaps after others have ended, one that acts with other credentials, or fewer.
pub data TasksChange (script : Script) (s : State) (event : Event) (made : Answer × State) : Type 0 where
  SameTasks : made.1.tasks ≡ s.tasks → made.1.broadcasts ≡ s.broadcasts → made.1.dumpable ≡ s.dumpable → TasksChange script s event made
  SetsFlag : (task value : ℕ) (owner : Task) (flag : Bool) → event ≡ Dumpable task value → task_of s task ≡ Some owner
      → flag_of_value value ≡ Some flag → made.1.tasks ≡ s.tasks → made.1.broadcasts ≡ s.broadcasts
      → made.1.dumpable ≡ set_flag s.dumpable owner.process flag → TasksChange script s event made
  Creates : (task process user group ns slot : ℕ) → event ≡ Init task process user group ns
      → made.1.tasks ≡ s.tasks ++ first_task task process (length s.creds) ∷ []
      → made.1.creds ≡ s.creds ++ sealed_cred (first_credential user group ns (root_of script ns)) slot ∷ [] → task_of s task ≡ None
      → broadcast_in s process ≡ None → made.1.broadcasts ≡ s.broadcasts → made.1.dumpable ≡ flags_begun s process → TasksChange script s event made
  Shares : (task child process : ℕ) (parent : Numbered)
      → made.1.tasks ≡ s.tasks ++ first_task child process parent.number ∷ [] → made.1.creds ≡ s.creds
      → current_of s task ≡ Some parent → task_of s child ≡ None → Creation s event task child process made → TasksChange script s event made
  Renews : (task slot : ℕ) (owner : Task) (c : Credential) (ends : Task → Bool)
      → made.1.tasks ≡ with_current (survivors ends s.tasks) task (length s.creds)
      → made.1.creds ≡ s.creds ++ sealed_cred c slot ∷ [] → task_of s task ≡ Some owner
      → Cause s event task owner ends c made → TasksChange script s event made
  Overrides : (task : ℕ) (numbers : List ℕ) → made.1.tasks ≡ with_overrides s.tasks task numbers
      → ((left : List ℕ) → All (OldOrNew s left made.1) numbers) → made.1.broadcasts ≡ s.broadcasts → made.1.dumpable ≡ s.dumpable
      → TasksChange script s event made
  Fewer : (ends : Task → Bool) → made.1.tasks ≡ survivors ends s.tasks → made.1.creds ≡ s.creds → Death s event ends made
      → TasksChange script s event made

-- A list of things that are found by a number: as it was, one more, or one less.
pub data ListChange (X : Type 0) (name : X → ℕ) (IsNew : X → Type 0) (IsGone : ℕ → Type 0) (before : List X) (after : List X) : Type 0 where
  Stays : after ≡ before → ListChange X name IsNew IsGone before after
  Adds : (x : X) → after ≡ before ++ x ∷ [] → find (λ y. name y == name x) before ≡ None → IsNew x
      → ListChange X name IsNew IsGone before after
  Removes : (number place : ℕ) (x : X) → IsGone number → after ≡ remove before place → position (λ y. name y == number) before ≡ Some place
      → slice_get before place ≡ Some x → ListChange X name IsNew IsGone before after

-- the open files
abbrev pub FilesChange : State → Event → List ℕ → State → Type 0
FilesChange s event left t =
    ListChange OpenFile (λ f. f.fd) (λ f. Old s left f.opener) (λ fd. event ≡ CloseFile fd) s.files t.files

-- a new hold's label prepares nothing
abbrev pub IsNewHold : State → List ℕ → Hold → Type 0
IsNewHold s left hold = (prepared_of s hold.label ≡ None) × Old s left hold.number

abbrev pub HoldsChange : State → Event → List ℕ → State → Type 0
HoldsChange s event left t = ListChange Hold (λ h. h.label) (IsNewHold s left) (λ label. event ≡ Release label) s.holds t.holds

-- The prepared labels: as they were, one more, one of them changed, or one less.
pub data PreparedChange (script : Script) (s : State) (event : Event) (left : List ℕ) (t : State) : Type 0 where
  SamePrepared : t.prepared ≡ s.prepared → PreparedChange script s event left t
  Prepares : (p : Prepared) → t.prepared ≡ s.prepared ++ p ∷ [] → p.changed ≡ None → hold_of t p.label ≡ None
      → prepared_of s p.label ≡ None → Old s left p.base → IsFree (with_left s left) p.slot
      → PreparedChange script s event left t
  Alters : (label : ℕ) (to : Changed) (p : Prepared) (base : Numbered) (answer : Answer)
      → t.prepared ≡ with_change s.prepared label to → prepared_of s label ≡ Some p → numbered s.creds p.base ≡ Some base
      → by_change (info_of s.inodes (change_files to.change)) (chain_of script base.cred.ns) base.cred to.change
      ≡ Ok (record { answer = answer; cred = to.cred; gains = to.gains })
      → event ≡ Alter label to.change → PreparedChange script s event left t
  Ends : (label place : ℕ) (p : Prepared) → SealsOf event label ⊎ (event ≡ Abort label)
      → t.prepared ≡ remove s.prepared place → position (λ p. p.label == label) s.prepared ≡ Some place
      → slice_get s.prepared place ≡ Some p → PreparedChange script s event left t

-- The files: as they were, or one of them as the event's call leaves it.
pub data InodesChange (s : State) (event : Event) (made : Answer × State) : Type 0 where
  SameInodes : made.1.inodes ≡ s.inodes → InodesChange s event made
  Writes : (place : ℕ) (held : Numbered) (old new : File) → changed_file event ≡ Some place → slice_get s.inodes place ≡ Some old
      → changed_by event held.cred old ≡ Ok new → made.0 ≡ Done → made.1.inodes ≡ slice_set s.inodes place new
      → InodesChange s event made

-- What an event changes, with the deferred references that are left by the sweep, if it makes one.
pub record Changes (script : Script) (s : State) (event : Event) (made : Answer × State) : Type 0 where
  pub left : List ℕ
  pub fewer : All (Contains s.deferred) left
  pub tasks : TasksChange script s event made
  pub files : FilesChange s event left made.1
  pub holds : HoldsChange s event left made.1
  pub prepared : PreparedChange script s event left made.1
  pub creds : CredsChange s event left made.1
  pub inodes : InodesChange s event made
  pub deferred : All (Contains (refs (with_left s left))) made.1.deferred
