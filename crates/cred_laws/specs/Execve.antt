-- What an execve is, by the event that completes it (execve(2)).
use Rattle.std.specs.Prelude.{◌≡◌, ℕ, All, Some, Ok}
use Rattle.cred_record.specs.File.{File}
use Rattle.cred_record.specs.declared.gains.Gains.{Gains}
use Rattle.cred_rules.specs.Exec.{exec}
use Rattle.cred_event.specs.declared.answer.Answer.TheVariants.{Executed}
use Rattle.cred_event.specs.declared.event.Change.TheVariants.{Exec}
use Rattle.cred_event.specs.declared.event.Event.{Event}
use Rattle.cred_event.specs.declared.event.Event.TheVariants.{Commit}
use Rattle.cred_model.specs.Script.{Script, chain_of}
use Rattle.cred_model.specs.State.{State, Task, Prepared, Changed, Numbered, task_of, prepared_of}
use Rattle.cred_model.specs.State.{current_of}
use Rattle.cred_model.specs.Step.{step}
use Rattle.cred_sound.specs.Sound.{IsSound}
use Rattle.cred_laws.specs.Made.{AreMade}

-- The event commits a label that was prepared for a task, and changed last by the execve of a file
-- at this place. The rule of execve makes the task's new credential of its old one and of such a
-- file, with these gains, and no other thread of the task's process goes on. How that file stood,
-- and when, is said of journals.
pub record IsExecve (script : Script) (before : State) (event : Event) (number slot : ℕ)
    (gains : Gains) (after : State) : Type 0 where
  pub prepared : Prepared
  pub last : Changed
  pub place : ℕ
  pub file : File
  pub task : Task
  pub old : Numbered
  pub new : Numbered
  pub commits : event ≡ Commit prepared.label
  pub stood : prepared_of before prepared.label ≡ Some prepared
  pub changed : prepared.changed ≡ Some last
  pub executes : last.change ≡ Exec place
  pub lives : task_of before prepared.task ≡ Some task
  pub had : current_of before prepared.task ≡ Some old
  pub has : current_of after prepared.task ≡ Some new
  pub sealed : (new.number ≡ number) × (new.slot ≡ slot)
  pub rule : exec old.cred file (chain_of script old.cred.ns)
      ≡ Ok (record { cred = new.cred; gains = gains })
  pub alone : All (λ t. t.process ≡ task.process → t.number ≡ task.number) after.tasks

-- Where an event answers that it completed an execve, it did.
abbrev pub ExecvesAreByTheRule : Type 0
ExecvesAreByTheRule =
    (script : Script) (s : State) (line : ℕ) (event : Event) (number slot ended : ℕ) (gains : Gains)
    → IsSound s → AreMade script s
    → (step script s line event).0 ≡ Executed number slot ended gains
    → IsExecve script s event number slot gains (step script s line event).1
