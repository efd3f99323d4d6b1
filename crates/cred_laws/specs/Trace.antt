-- Who may look into whom without CAP_SYS_PTRACE, and into which processes nobody may (ptrace(2),
-- "Ptrace access mode checking"; prctl(2), PR_SET_DUMPABLE).
use Rattle.std.specs.Prelude.{◌≡◌, ◌≢◌, ℕ, true, false, Some, find, is_some}
use Rattle.std.specs.Option.{option_map}
use Rattle.cred_ids.specs.declared.id.Ids4.{Ids4}
use Rattle.cred_caps.specs.Caps.{IsWithin}
use Rattle.cred_caps.specs.Numbers.{SYS_PTRACE}
use Rattle.cred_record.specs.Credential.{Credential, capable}
use Rattle.cred_record.specs.declared.gains.Gains.{Gains}
use Rattle.cred_event.specs.declared.answer.Answer.{Answer}
use Rattle.cred_event.specs.declared.answer.Answer.TheVariants.{Done, Executed}
use Rattle.cred_event.specs.declared.event.Event.{Event}
use Rattle.cred_event.specs.declared.event.Event.TheVariants.{Dumpable, Ptrace}
use Rattle.cred_record.specs.declared.mode.PtraceMode.{PtraceMode}
use Rattle.cred_model.specs.Script.{Script}
use Rattle.cred_model.specs.State.{State, Task, Numbered, task_of, current_of, held_by}
use Rattle.cred_model.specs.Ends.{is_thread_of}
use Rattle.cred_rules.specs.Ptrace.{asking_user, asking_group}
use Rattle.cred_model.specs.Dumpable.{is_dumpable, differs}
use Rattle.cred_model.specs.Step.{step}
use Rattle.cred_sound.specs.Sound.{IsSound}
use Rattle.cred_laws.specs.Valid.{AreValid}
use Rattle.cred_laws.specs.Execve.{IsExecve}
use Rattle.cred_laws.specs.Made.{AreMade}

-- The real, the effective and the saved id are this one.
pub record AreAll (id : ℕ) (ids : Ids4) : Type 0 where
  pub real : ids.real ≡ id
  pub effective : ids.effective ≡ id
  pub saved : ids.saved ≡ id

-- The one credential is that of a task which could do all that the other's may: all its user ids
-- and all its group ids are those that are asked by, and it is permitted no more.
pub record IsOwn (mode : PtraceMode) (from to : Credential) : Type 0 where
  pub user : AreAll (asking_user mode from) to.uid
  pub group : AreAll (asking_group mode from) to.gid
  pub permitted : IsWithin to.perm from.perm

-- The event asks whether a task of another process may be looked into, by a credential without
-- CAP_SYS_PTRACE.
pub record AsksWithoutCap (s : State) (event : Event) (mode : PtraceMode) (own other : Credential)
    (process : ℕ) : Type 0 where
  pub from : ℕ
  pub hold : ℕ
  pub to : ℕ
  pub target : ℕ
  pub asks : event ≡ Ptrace from hold to target mode
  pub sender : Task
  pub receiver : Task
  pub asking : task_of s from ≡ Some sender
  pub asked : task_of s to ≡ Some receiver
  pub process_of : receiver.process ≡ process
  pub apart : sender.process ≢ receiver.process
  pub held : option_map (λ c. c.cred) (held_by s hold) ≡ Some own
  pub targeted : option_map (λ c. c.cred) (held_by s target) ≡ Some other
  pub lacks : capable own SYS_PTRACE ≡ false

-- Where such a question is answered that it may, the target's ids are the asker's own, it is
-- permitted no more, and its process is dumpable.
abbrev pub LooksIntoOwnAlone : Type 0
LooksIntoOwnAlone =
    (script : Script) (s : State) (line : ℕ) (event : Event) (mode : PtraceMode)
    (own other : Credential) (process : ℕ)
    → AreValid s → AsksWithoutCap s event mode own other process
    → (step script s line event).0 ≡ Done
    → IsOwn mode own other × (is_dumpable s.dumpable process ≡ true)

-- ---- a process that is dumpable no longer

-- the process has threads
abbrev pub HasThreads : State → ℕ → Type 0
HasThreads s process = is_some (find (is_thread_of process) s.tasks) ≡ true

-- An event by which a task gets a credential with another effective or filesystem id leaves the
-- task's process not dumpable.
abbrev pub IdsClearFlag : Type 0
IdsClearFlag =
    (script : Script) (s : State) (line : ℕ) (event : Event) (task : ℕ) (owner : Task)
    (before after : Numbered)
    → IsSound s → task_of s task ≡ Some owner → current_of s task ≡ Some before
    → current_of (step script s line event).1 task ≡ Some after
    → differs before.cred after.cred ≡ true
    → is_dumpable (step script s line event).1.dumpable owner.process ≡ false

-- A task of the process asks for the flag.
abbrev pub IsAskedFor : State → Event → ℕ → Type 0
IsAskedFor s event process =
    (task : ℕ)
    × (event ≡ Dumpable task 1)
    × (option_map (λ t. t.process) (task_of s task) ≡ Some process)

-- A task of the process completes an execve.
abbrev pub IsExecuted : Script → State → Event → Answer → State → ℕ → Type 0
IsExecuted script s event answer after process =
    (number : ℕ) × (slot : ℕ) × (ended : ℕ) × (gains : Gains)
    × (answer ≡ Executed number slot ended gains)
    × (x : IsExecve script s event number slot gains after)
    × (x.task.process ≡ process)

-- A process that has threads, and isn't dumpable, stays so over each event but these two.
abbrev pub FlagStaysClear : Type 0
FlagStaysClear =
    (script : Script) (s : State) (line : ℕ) (event : Event) (process : ℕ)
    → IsSound s → AreMade script s → HasThreads s process → is_dumpable s.dumpable process ≡ false
    → (IsAskedFor s event process → ⊥)
    → (IsExecuted script s event (step script s line event).0 (step script s line event).1 process
    → ⊥)
    → is_dumpable (step script s line event).1.dumpable process ≡ false
