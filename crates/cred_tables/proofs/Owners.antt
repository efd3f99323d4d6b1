-- What the tests of an event find of a task: its current credential, and whether it acts with
-- another one.
use Rattle.std.proofs.Common.{◌≡◌, ℕ, ◌==◌, List, find, ok_or, Option, None, Some, Result, Ok, Err, refl, sym, ap, ◌∙◌}
use Rattle.std.specs.Option.{IfSome, IsSome, option_and_then, option_map}
use Rattle.cred_event.specs.declared.answer.Answer.{Answer}
use Rattle.cred_event.specs.declared.answer.Answer.TheVariants.{NoTask, Overridden}
use Rattle.cred_model.specs.State.{State, Task, Broadcast, Numbered, numbered, task_of, current_of}
use Rattle.cred_model.specs.Moves.{not_overridden}
use Rattle.cred_model.specs.Step.{outcome}
use Rattle.cred_model.proofs.Places.{if_some}
use Rattle.cred_ids.specs.Tests.{◌>>=◌}

-- a task that acts with its current credential, if it is alive, or with another one
abbrev pub IsOwn : State → ℕ → Type 0
IsOwn s task = IfSome (task_of s task) (λ owner. not_overridden owner ≡ Ok tt)

abbrev pub IsOver : State → ℕ → ℕ → Type 0
IsOver s task depth = IfSome (task_of s task) (λ owner. not_overridden owner ≡ Err (Overridden depth))

pub own_owner : (s : State) (task : ℕ) (owner : Task) → task_of s task ≡ Some owner → IsOwn s task → not_overridden owner ≡ Ok tt
own_owner s task owner lives own = if_some (λ t. not_overridden t ≡ Ok tt) (task_of s task) owner lives own

pub over_owner : (s : State) (task depth : ℕ) (owner : Task) → task_of s task ≡ Some owner → IsOver s task depth → not_overridden owner ≡ Err (Overridden depth)
over_owner s task depth owner lives over = if_some (λ t. not_overridden t ≡ Err (Overridden depth)) (task_of s task) owner lives over

module _ (s : State) (task : ℕ) (then : Task → Numbered → Result (Answer × State) Answer) where
  -- an event that begins with a task's current credential
  abbrev pub by_own : Result (Answer × State) Answer
  by_own = ok_or (task_of s task) (NoTask task) >>= (λ t. ok_or (numbered s.creds t.current) (NoTask task) >>= then t)

  pub own_none : current_of s task ≡ None → outcome s by_own ≡ (NoTask task, s)
  own_none none = by (task_of s task) none
    where
      by : (found : Option Task) → option_and_then (λ (t : Task). numbered s.creds t.current) found ≡ None
          → outcome s (ok_or found (NoTask task) >>= (λ t. ok_or (numbered s.creds t.current) (NoTask task) >>= then t)) ≡ (NoTask task, s)
      by None none = refl
      by (Some t) none = rw none refl

-- the task of a label, where its current number was found
pub owner_of : (s : State) (task number : ℕ) → Some number ≡ option_map (λ t. t.current) (task_of s task)
    → (owner : Task) × (task_of s task ≡ Some owner) × (owner.current ≡ number)
owner_of s task number is = by (task_of s task) refl is
  where
    by : (found : Option Task) → task_of s task ≡ found → Some number ≡ option_map (λ t. t.current) found
        → (owner : Task) × (task_of s task ≡ Some owner) × (owner.current ≡ number)
    by None at is = cc
    by (Some owner) at is = (owner, at, cc)

pub no_number : (found : Option Task) → None ≡ option_map (λ t. t.current) found → found ≡ None
no_number None none = refl
no_number (Some t) none = cc

-- a task that has a current number has a process
pub has_process_of : (tasks : List Task) (task number : ℕ) {process : Option ℕ} → Some number ≡ option_map (λ t. t.current) (find (λ t. t.number == task) tasks)
    → process ≡ option_map (λ t. t.process) (find (λ t. t.number == task) tasks) → IsSome process
has_process_of tasks task number has is = by (find (λ t. t.number == task) tasks) has is
  where
    by : {process : Option ℕ} (found : Option Task) → Some number ≡ option_map (λ t. t.current) found → process ≡ option_map (λ t. t.process) found
        → IsSome process
    by None has is = cc
    by (Some owner) has is = rw is refl

-- the process that was found is the owner's
pub owner_process : (tasks : List Task) (task number : ℕ) (owner : Task) {process : Option ℕ} → find (λ t. t.number == task) tasks ≡ Some owner
    → process ≡ Some number → process ≡ option_map (λ t. t.process) (find (λ t. t.number == task) tasks) → number ≡ owner.process
owner_process tasks task number owner lives there is =
    let same : Some number ≡ Some owner.process = sym there ∙ is ∙ ap (option_map (λ (t : Task). t.process)) lives in cc

-- a task that was found has a process
pub has_process : {found : Option Task} {process : Option ℕ} (owner : Task) → found ≡ Some owner → process ≡ option_map (λ t. t.process) found → IsSome process
has_process owner lives is = rw (is, lives) refl

-- a task that is alive has a process
pub process_there : (found : Option Task) {process : Option ℕ} → IsSome found → process ≡ option_map (λ t. t.process) found → IsSome process
process_there None alive is = cc
process_there (Some t) alive is = rw is refl

-- what holds of each broadcast of a process holds of those of the owner's, whose process it is
pub for_owner : {P : Broadcast → Type 0} (found : Option Task) {process : Option ℕ} {number : ℕ} → process ≡ option_map (λ t. t.process) found
    → process ≡ Some number → ((broadcast : Broadcast) → broadcast.process ≡ number → P broadcast)
    → IfSome found (λ owner. (broadcast : Broadcast) → broadcast.process ≡ owner.process → P broadcast)
for_owner None is at each = tt
for_owner (Some t) {number = number} is at each =
    let same : Some t.process ≡ Some number = sym is ∙ at in
    let of : t.process ≡ number = cc in
    λ broadcast own. each broadcast (own ∙ of)
