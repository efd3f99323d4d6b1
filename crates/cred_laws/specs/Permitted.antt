-- How the permitted set of a task's credential may change.
use Rattle.std.specs.Prelude.{◌≡◌, ◌≢◌, ℕ, length, Some, None}
use Rattle.cred_caps.specs.Caps.{less}
use Rattle.cred_record.specs.Credential.{first_credential}
use Rattle.cred_event.specs.declared.answer.Answer.{Answer}
use Rattle.cred_event.specs.declared.event.Event.{Event}
use Rattle.cred_event.specs.declared.event.Event.TheVariants.{Init, Spawn, Fork}
use Rattle.cred_model.specs.Script.{Script, root_of}
use Rattle.cred_model.specs.State.{State, Numbered, task_of, current_of}
use Rattle.cred_model.specs.Change.{gain_told}
use Rattle.cred_model.specs.Step.{step}
use Rattle.cred_sound.specs.Sound.{IsSound}
use Rattle.cred_laws.specs.Made.{AreMade}

-- A task's current credential before and after an event with this answer. Where they have one
-- number they are the same, in the same slot. Where they don't, what the new one permits and the
-- old one didn't is just what the answer says was gained.
pub record GainsBy (answer : Answer) (before after : Numbered) : Type 0 where
  pub same : after.number ≡ before.number → after ≡ before
  pub other : after.number ≢ before.number
      → less after.cred.perm before.cred.perm ≡ gain_told answer

-- This holds of each task that is alive before and after an event, in a sound state where each
-- prepared credential is what its change makes of its base.
abbrev pub PermittedGains : Type 0
PermittedGains =
    (script : Script) (s : State) (line : ℕ) (event : Event) (task : ℕ) (before after : Numbered)
    → IsSound s → AreMade script s → current_of s task ≡ Some before
    → current_of (step script s line event).1 task ≡ Some after
    → GainsBy (step script s line event).0 before after

-- In this state the event creates the task, with this current credential: a first task has a new
-- one, that of the ids and the namespace which the event names, where root is the namespace's own,
-- and a thread or a child shares that of the task which creates it.
abbrev pub IsCreatedWith : Script → State → Event → ℕ → Numbered → Type 0
IsCreatedWith script s (Init number process user group ns) task c =
    (number ≡ task) × (c.number ≡ length s.creds) ×
    (c.cred ≡ first_credential user group ns (root_of script ns))
IsCreatedWith script s (Spawn parent child) task c =
    (child ≡ task) × (current_of s parent ≡ Some c)
IsCreatedWith script s (Fork parent child process) task c =
    (child ≡ task) × (current_of s parent ≡ Some c)
IsCreatedWith script s event task c = ⊥

-- A task that was not alive before an event, and is after it, was created by it.
abbrev pub NewTasksAreCreated : Type 0
NewTasksAreCreated =
    (script : Script) (s : State) (line : ℕ) (event : Event) (task : ℕ) (after : Numbered)
    → task_of s task ≡ None → current_of (step script s line event).1 task ≡ Some after
    → IsCreatedWith script s event task after
