-- What was found where nothing refuses an event.
use Rattle.std.specs.Prelude.{◌≡◌, ◌<◌, ℕ, false, length, Some, None, Ok, Result, IfSome}
use Rattle.std.specs.declared.option.Option.{Option}
use Rattle.cred_ids.specs.Limits.{TASKS, PREPARED}
use Rattle.cred_event.specs.declared.answer.Answer.{Answer}
use Rattle.cred_model.specs.State.{State, Task, Hold, Numbered, task_of, current_of, begun_by}
use Rattle.cred_model.specs.State.{broadcast_in, hold_of, prepared_of}
use Rattle.cred_model.specs.Broadcasts.{not_busy}
use Rattle.cred_model.specs.Moves.{not_overridden}
use Rattle.cred_model.specs.TaskEvents.{by_fork, by_spawn}
use Rattle.cred_procs.specs.Tasks.{has_process}

-- The label may prepare for the task, on the credential of this number, which the hold has.
pub record MayPrepare (s : State) (label task hold number : ℕ) : Type 0 where
  pub owner : Task
  pub lives : task_of s task ≡ Some owner
  pub idle : not_busy (begun_by s task) ≡ Ok tt
  pub base : Hold
  pub has : hold_of s hold ≡ Some base
  pub is : base.number ≡ number
  pub new : hold_of s label ≡ None
  pub unprepared : prepared_of s label ≡ None
  pub few : length s.prepared < PREPARED

-- The task may create another, which shares its current credential.
pub record MayCreate (s : State) (task child : ℕ) (now : Numbered) : Type 0 where
  pub owner : Task
  pub lives : task_of s task ≡ Some owner
  pub has : current_of s task ≡ Some now
  pub idle : not_busy (begun_by s task) ≡ Ok tt
  pub new : task_of s child ≡ None
  pub own : not_overridden owner ≡ Ok tt
  pub few : length s.tasks < TASKS

-- The task may make an id call for itself alone: it is alive and acts with its current credential,
-- which is this one, and no broadcast is open in its process.
pub record MayCallAlone (s : State) (task : ℕ) (now : Numbered) : Type 0 where
  pub owner : Task
  pub lives : task_of s task ≡ Some owner
  pub has : current_of s task ≡ Some now
  pub idle : broadcast_in s owner.process ≡ None
  pub own : not_overridden owner ≡ Ok tt

-- a task creates a thread of its process, or the first one of a new process
abbrev pub by_creating : State → (task child : ℕ) → (process : Option ℕ)
    → Result (Answer × State) Answer
by_creating s task child None = by_spawn s task child
by_creating s task child (Some process) = by_fork s task child process

-- no task is of the process that is to be new, if there is to be one
abbrev pub IsUnusedProcess : State → Option ℕ → Type 0
IsUnusedProcess s process = IfSome process (λ number. has_process s.tasks number ≡ false)
