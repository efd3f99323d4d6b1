-- The laws, of the states that one journal leads through.
use Rattle.std.specs.Prelude.{◌≡◌, ◌≢◌, ℕ, Bool, true, false, ◌+◌, ◌<◌, ◌≤◌, List, length, take}
use Rattle.std.specs.Prelude.{slice_get, Some, None, IfSome}
use Rattle.std.specs.Option.{option_map}
use Rattle.std.specs.declared.option.Option.{Option}
use Rattle.cred_ids.specs.declared.arg.Arg.{Arg}
use Rattle.cred_ids.specs.declared.id.Kind.{Kind}
use Rattle.cred_record.specs.File.{File}
use Rattle.cred_rules.specs.Files.{strips}
use Rattle.cred_record.specs.declared.gains.Gains as answer
use Rattle.cred_record.specs.Credential.{Credential}
use Rattle.cred_record.specs.declared.id_call.IdCall.{IdCall}
use Rattle.cred_event.specs.declared.answer.Answer.TheVariants.{Done, Executed, Began, Sealed}
use Rattle.cred_event.specs.declared.event.Change.{Change}
use Rattle.cred_event.specs.declared.event.Change.TheVariants.{Exec}
use Rattle.cred_event.specs.declared.event.Event.TheVariants.{Release, Begin, CloseFile, Chown}
use Rattle.cred_event.specs.declared.event.Event.TheVariants.{Raw}
use Rattle.cred_record.specs.declared.mode.PtraceMode.{PtraceMode}
use Rattle.cred_event.specs.declared.entry.Entry.{Entry}
use Rattle.cred_model.specs.Script.{Script}
use Rattle.cred_model.specs.State.{State, Task, Prepared, Numbered, numbered, task_of, broadcast_in}
use Rattle.cred_model.specs.State.{current_of, opener_of, held_by, info_of}
use Rattle.cred_model.specs.Named.{change_files}
use Rattle.cred_model.specs.FileChanges.{changed_file}
use Rattle.cred_model.specs.Dumpable.{is_dumpable, differs}
use Rattle.cred_model.specs.Journal.{replay, IsAnswered}
use Rattle.cred_sound.specs.Sound.{IsSound}
use Rattle.cred_laws.specs.Slots.{IsUnusedSlot}
use Rattle.cred_laws.specs.Held.{preparation_of, ends_label}
use Rattle.cred_laws.specs.Made.{AreMade}
use Rattle.cred_laws.specs.Overrides.{IsOverriding}
use Rattle.cred_laws.specs.Execve.{IsExecve}
use Rattle.cred_laws.specs.States.{state_at}
use Rattle.cred_laws.specs.Files.{IsFileOf, HasStripped, resets}
use Rattle.cred_laws.specs.Confined.{StaysInBoxes, NeverGains}
use Rattle.cred_laws.specs.Raw.{IsRaw}
use Rattle.cred_laws.specs.Permitted.{GainsBy, IsCreatedWith}
use Rattle.cred_laws.specs.Valid.{AreValid}
use Rattle.cred_laws.specs.Trace.{IsOwn, AsksWithoutCap, HasThreads, IsAskedFor, IsExecuted}
use Rattle.cred_laws.specs.Broadcast.{HasNamed, AllHave, Completes, call_kind, three_ids, IsAlike}
use Rattle.cred_laws.specs.Broadcast.{stepping}

-- Each state is sound.
abbrev pub IsAlwaysSound : Script → List Entry → Type 0
IsAlwaysSound script journal = (k : ℕ) → IsSound (state_at script journal k)

-- In each state a prepared credential that was changed is what its last change makes of its base.
abbrev pub IsAlwaysMade : Script → List Entry → Type 0
IsAlwaysMade script journal = (k : ℕ) → AreMade script (state_at script journal k)

-- In each state the sets of each sealed credential are valid.
abbrev pub IsAlwaysValid : Script → List Entry → Type 0
IsAlwaysValid script journal = (k : ℕ) → AreValid (state_at script journal k)

-- What an entry seals is put where no credential in use stood, and where no prepared label kept the
-- slot but the one whose credential the entry seals. One that was given up and waits for the sweep
-- is not in use.
abbrev pub WritesUnusedSlots : Script → List Entry → Type 0
WritesUnusedSlots script journal =
    (k number : ℕ) (new : Numbered) → length (state_at script journal k).creds ≤ number
    → numbered (state_at script journal (k + 1)).creds number ≡ Some new
    → IfSome (slice_get journal k) (λ entry.
    IsUnusedSlot (state_at script journal k) entry.event new.slot)

-- What is sealed keeps its number, its credential and its slot.
abbrev pub KeepsSealed : Script → List Entry → Type 0
KeepsSealed script journal =
    (k l number : ℕ) (sealed : Numbered) → k ≤ l
    → numbered (state_at script journal k).creds number ≡ Some sealed
    → numbered (state_at script journal l).creds number ≡ Some sealed

-- What a label holds it holds as long as no entry releases it.
abbrev pub KeepsHeld : Script → List Entry → Type 0
KeepsHeld script journal =
    (k l label : ℕ) (held : Numbered) → k ≤ l
    → held_by (state_at script journal k) label ≡ Some held
    → ((i : ℕ) → k ≤ i → i < l
    → IfSome (slice_get journal i) (λ entry. entry.event ≢ Release label))
    → held_by (state_at script journal l) label ≡ Some held

-- A file that is open keeps its opener's credential as long as no entry closes its descriptor.
abbrev pub KeepsOpeners : Script → List Entry → Type 0
KeepsOpeners script journal =
    (k l fd : ℕ) (opener : Numbered) → k ≤ l
    → opener_of (state_at script journal k) fd ≡ Some opener
    → ((i : ℕ) → k ≤ i → i < l
    → IfSome (slice_get journal i) (λ entry. entry.event ≢ CloseFile fd))
    → opener_of (state_at script journal l) fd ≡ Some opener

-- An entry by which a task overrides its credential, or reverts, leaves each task the current one
-- that it had.
abbrev pub OverridesLeave : Script → List Entry → Type 0
OverridesLeave script journal =
    (k task : ℕ)
    → IfSome (slice_get journal k) (λ entry. IsOverriding entry.event
    → option_map (λ t. t.current) (task_of (state_at script journal (k + 1)) task)
    ≡ option_map (λ t. t.current) (task_of (state_at script journal k) task))

-- What a label prepares stays, but for its changes, as long as no entry ends it.
abbrev pub KeepsPrepared : Script → List Entry → Type 0
KeepsPrepared script journal =
    (k l label : ℕ) (p : Prepared) → k ≤ l
    → preparation_of (state_at script journal k) label ≡ Some p
    → ((i : ℕ) → k ≤ i → i < l
    → IfSome (slice_get journal i) (λ entry. ends_label label entry.event ≡ false))
    → preparation_of (state_at script journal l) label ≡ Some p

-- What an entry adds to what a living task is permitted is what its answer says was gained.
abbrev pub GainsAsAnswered : Script → List Entry → Type 0
GainsAsAnswered script journal =
    (k task : ℕ) (before after : Numbered)
    → current_of (state_at script journal k) task ≡ Some before
    → current_of (state_at script journal (k + 1)) task ≡ Some after
    → IfSome (slice_get journal k) (λ entry. GainsBy entry.answer before after)

-- An entry which answers that an execve is completed commits what the rule of execve makes of the
-- task's credential and of the file, as that stood at the last change of the label, with the gains
-- that it answers.
abbrev pub ExecvesByTheRule : Script → List Entry → Type 0
ExecvesByTheRule script journal =
    (k number slot ended : ℕ) (gains : answer.Gains)
    → IfSome (slice_get journal k) (λ entry.
    entry.answer ≡ Executed number slot ended gains
    → (x : IsExecve script (state_at script journal k) entry.event number slot gains
    (state_at script journal (k + 1)))
    × IsFileOf script journal k x.prepared.label (Exec x.place) (Some x.file))

-- An entry leaves as many files as there were, and a file changes only by one of chown(2),
-- chmod(2), or setxattr(2) or removexattr(2) of its attribute, on that file, that isn't refused.
pub record FilesStay (script : Script) (journal : List Entry) : Type 0 where
  pub many : (k : ℕ) → IfSome (slice_get journal k) (λ _.
      length (state_at script journal (k + 1)).inodes ≡ length (state_at script journal k).inodes)
  pub calls : (k place : ℕ) (old new : File)
      → slice_get (state_at script journal k).inodes place ≡ Some old
      → slice_get (state_at script journal (k + 1)).inodes place ≡ Some new → old ≢ new
      → IfSome (slice_get journal k) (λ entry.
      (changed_file entry.event ≡ Some place) × (entry.answer ≡ Done))

-- After an entry of chown(2) that isn't refused, and gives an owner or a group to an executable
-- regular file, the file has no attribute and no set-user-ID bit, up to the next entry that sets
-- its mode or its attribute.
abbrev pub ChownsStrip : Script → List Entry → Type 0
ChownsStrip script journal =
    (k l place hold : ℕ) (owner group : Arg) (old : File) (entry : Entry) → k < l
    → slice_get journal k ≡ Some entry → entry.event ≡ Chown hold place owner group
    → entry.answer ≡ Done → slice_get (state_at script journal k).inodes place ≡ Some old
    → strips old owner group ≡ true
    → ((i : ℕ) → k < i → i < l
    → IfSome (slice_get journal i) (λ later. resets later.event place ≡ false))
    → HasStripped (state_at script journal l).inodes place

-- An id call of one thread alone leaves every other task the current credential that it had.
abbrev pub RawsLeave : Script → List Entry → Type 0
RawsLeave script journal =
    (k task other : ℕ) (call : IdCall) → other ≢ task
    → IfSome (slice_get journal k) (λ entry. entry.event ≡ Raw task call
    → option_map (λ t. t.current) (task_of (state_at script journal (k + 1)) other)
    ≡ option_map (λ t. t.current) (task_of (state_at script journal k) other))

-- Where it isn't refused, the task has what the rule makes of the credential that it had.
abbrev pub RawsByTheRule : Script → List Entry → Type 0
RawsByTheRule script journal =
    (k task number slot : ℕ) (call : IdCall)
    → IfSome (slice_get journal k) (λ entry.
    entry.event ≡ Raw task call → entry.answer ≡ Sealed number slot
    → IsRaw (state_at script journal k) task call number slot (state_at script journal (k + 1)))

-- A task lives from the entry on that creates it, with the credential that this one gives it.
abbrev pub CreatesTasks : Script → List Entry → Type 0
CreatesTasks script journal =
    (k task : ℕ) (after : Numbered) → task_of (state_at script journal k) task ≡ None
    → current_of (state_at script journal (k + 1)) task ≡ Some after
    → IfSome (slice_get journal k) (λ entry.
    IsCreatedWith script (state_at script journal k) entry.event task after)

-- After an entry that completes a call of a thread, each live thread of the process has what the
-- call names.
abbrev pub CompletesForAll : Script → List Entry → Type 0
CompletesForAll script journal =
    (k process : ℕ) (call : IdCall)
    → IfSome (slice_get journal k) (λ entry.
    let after = state_at script journal (k + 1) in
    Completes (state_at script journal k) entry.event entry.answer after process call
    → AllHave (HasNamed call) after process)

-- The call of a thread of the process, begun by entry `begun` and completed by entry `done`. Its
-- broadcast has the number of the begin's line, and is open in between.
pub record RunsThrough
    (script : Script) (journal : List Entry) (begun done number process : ℕ) (call : IdCall)
    : Type 0 where
  pub order : begun ≤ done
  pub first : Entry
  pub last : Entry
  pub task : ℕ
  pub cred : ℕ
  pub slot : ℕ
  pub left : ℕ
  pub begins : slice_get journal begun ≡ Some first
  pub numbered : first.line ≡ number
  pub calls : first.event ≡ Begin task call
  pub began : first.answer ≡ Began cred slot left
  pub caller : option_map (λ t. t.process) (task_of (state_at script journal begun) task)
      ≡ Some process
  pub goes_on : (i : ℕ) → begun < i → i ≤ done
      → option_map (λ b. b.number) (broadcast_in (state_at script journal i) process) ≡ Some number
  pub ends : slice_get journal done ≡ Some last
  pub completes : Completes (state_at script journal done) last.event last.answer
      (state_at script journal (done + 1)) process call

-- From one entry to another each thread had, before its own step in the broadcast, these three ids
-- of the kind on its current credential, and had or lacked the capability.
abbrev pub StepAlike : Script → List Entry → (begun done number : ℕ) → Kind → List ℕ → Bool → Type 0
StepAlike script journal begun done number kind ids able =
    (i : ℕ) → begun ≤ i → i ≤ done
    → IfSome (slice_get journal i) (λ entry.
    IfSome (stepping number entry.line entry.event entry.answer) (λ task.
    IfSome (current_of (state_at script journal i) task) (λ c. IsAlike kind ids able c.cred)))

-- Where that is so of all steps of a call that was completed, the three ids are equal in all live
-- threads of the process.
abbrev pub KeepsAlike : Script → List Entry → Type 0
KeepsAlike script journal =
    (begun done number process : ℕ) (call : IdCall) (ids : List ℕ) (able : Bool)
    → RunsThrough script journal begun done number process call
    → StepAlike script journal begun done number (call_kind call) ids able
    → (equal : List ℕ)
    × AllHave (λ c. three_ids (call_kind call) c
    ≡ equal) (state_at script journal (done + 1)) process

-- Where an entry says that a task may look into one of another process, and was asked by a
-- credential without CAP_SYS_PTRACE, the target's ids are those that are asked by, it is permitted
-- no more than the one that asks, and its process is dumpable.
abbrev pub LooksIntoOwn : Script → List Entry → Type 0
LooksIntoOwn script journal =
    (k process : ℕ) (mode : PtraceMode) (own other : Credential)
    → IfSome (slice_get journal k) (λ entry.
    AsksWithoutCap (state_at script journal k) entry.event mode own other process
    → entry.answer ≡ Done
    → IsOwn mode own other × (is_dumpable (state_at script journal k).dumpable process ≡ true))

-- The process has threads before an entry by which none of them asks for the flag or completes an
-- execve.
pub record LeavesClear (script : Script) (journal : List Entry) (i process : ℕ) : Type 0 where
  pub has : HasThreads (state_at script journal i) process
  pub unasked : IfSome (slice_get journal i) (λ entry.
      IsAskedFor (state_at script journal i) entry.event process → ⊥)
  pub unexecuted : IfSome (slice_get journal i) (λ entry.
      IsExecuted script (state_at script journal i) entry.event entry.answer
      (state_at script journal (i + 1)) process → ⊥)

-- Where an entry gives a task a credential with another effective or filesystem id, the task's
-- process isn't dumpable after it, up to an entry by which one of its threads asks for the flag or
-- completes an execve, or up to the end of its last thread.
abbrev pub StaysUndumpable : Script → List Entry → Type 0
StaysUndumpable script journal =
    (k l task : ℕ) (owner : Task) (before after : Numbered) → k < l
    → task_of (state_at script journal k) task ≡ Some owner
    → current_of (state_at script journal k) task ≡ Some before
    → current_of (state_at script journal (k + 1)) task ≡ Some after
    → differs before.cred after.cred ≡ true
    → ((i : ℕ) → k < i → i < l → LeavesClear script journal i owner.process)
    → is_dumpable (state_at script journal l).dumpable owner.process ≡ false

-- all of these
pub record IsLawful (script : Script) (journal : List Entry) : Type 0 where
  pub sound : IsAlwaysSound script journal
  pub made : IsAlwaysMade script journal
  pub valid : IsAlwaysValid script journal
  pub unused : WritesUnusedSlots script journal
  pub sealed : KeepsSealed script journal
  pub held : KeepsHeld script journal
  pub openers : KeepsOpeners script journal
  pub overrides : OverridesLeave script journal
  pub prepared : KeepsPrepared script journal
  pub execves : ExecvesByTheRule script journal
  pub gains : GainsAsAnswered script journal
  pub created : CreatesTasks script journal
  pub calls : CompletesForAll script journal
  pub alike : KeepsAlike script journal
  pub looks : LooksIntoOwn script journal
  pub undumpable : StaysUndumpable script journal
  pub files : FilesStay script journal
  pub chowns : ChownsStrip script journal
  pub raws : RawsLeave script journal
  pub raw_rule : RawsByTheRule script journal
  pub boxes : StaysInBoxes script journal
  pub never : NeverGains script journal

-- They hold of every journal whose entries have the answers that the rules give.
abbrev pub JournalsAreLawful : Type 0
JournalsAreLawful =
    (script : Script) (journal : List Entry) → IsAnswered script journal → IsLawful script journal
