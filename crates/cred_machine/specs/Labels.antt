-- Labels that are committed, or override their task's credential.
use Rattle.std.specs.Prelude.{◌≡◌, ℕ, slice_get, Some}
use Rattle.cred_event.specs.declared.answer.Answer.{Answer}
use Rattle.cred_model.specs.State.{State, Task, Prepared, Changed, task_of}
use Rattle.cred_model.specs.LabelEvents.{try_commit}

-- The label at this place prepares a credential for a task that is alive, and this was its last
-- change.
pub record IsChanged
    (s : State) (place : ℕ) (p : Prepared) (owner : Task) (last : Changed)
    : Type 0 where
  pub there : slice_get s.prepared place ≡ Some p
  pub changed : p.changed ≡ Some last
  pub lives : task_of s p.task ≡ Some owner

-- There is such a label at this place.
pub record CanCommit (s : State) (place : ℕ) : Type 0 where
  pub p : Prepared
  pub owner : Task
  pub last : Changed
  pub is : IsChanged s place p owner last

-- its base is its task's current credential
abbrev pub IsOnCurrent : State → ℕ → Type 0
IsOnCurrent s place =
    (p : Prepared) (owner : Task) (last : Changed) → IsChanged s place p owner last
    → owner.current ≡ p.base

-- The label at this place was committed, or given up where its base isn't current any more.
abbrev pub Commits : State → ℕ → Answer → State → Type 0
Commits s place answer after =
    (p : Prepared) (owner : Task) (last : Changed) → IsChanged s place p owner last
    → try_commit s place p owner last ≡ (answer, after)
