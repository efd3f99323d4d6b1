-- The parts that events share: their tests, and what they do to the state.
use Rattle.std.specs.Prelude.{ℕ, ◌==◌, nat_lt, [], ◌∷◌, ◌++◌, length, map, remove, Result, Ok, Err}
use Rattle.std.specs.Prelude.{is_some, Some, if◌then◌else◌, List}
use Rattle.std.specs.declared.option.Option.{Option}
use Rattle.std.specs.Option.{option_map_or}
use Rattle.cred_record.specs.Credential.{Credential}
use Rattle.cred_event.specs.declared.answer.Answer.{Answer}
use Rattle.cred_event.specs.declared.answer.Answer.TheVariants.{Overridden, TableFull}
use Rattle.cred_event.specs.declared.answer.AbortCause.{AbortCause}
use Rattle.cred_event.specs.declared.answer.AbortCause.TheVariants.{Perm, Full}
use Rattle.cred_model.specs.State.{State, Task, Prepared, Changed}
use Rattle.cred_model.specs.Slots.{swept_if_full, free, swept}
use Rattle.cred_event.specs.Answers.{is_ok}

-- refused with this answer where there is a value
abbrev pub none_or : {A : Type 0} → Option A → Answer → Result (Unit {0}) Answer
none_or found answer = if is_some found then Err answer else Ok tt

-- refused with this answer where there are as many as there may be
abbrev pub fewer_or : ℕ → ℕ → Answer → Result (Unit {0}) Answer
fewer_or count limit answer = if nat_lt count limit then Ok tt else Err answer

-- refused with this answer where it is a refusal
abbrev pub unless_refused : Answer → Result (Unit {0}) Answer
unless_refused answer = if is_ok answer then Ok tt else Err answer

-- refused while the task acts with another credential than its current one
abbrev pub not_overridden : Task → Result (Unit {0}) Answer
not_overridden t = if length t.overrides == 0 then Ok tt else Err (Overridden (length t.overrides))

-- What happens where a slot is free, and where none is. The sweep that was made to find one stands
-- either way.
abbrev pub in_slot : State → (State → Answer × State) → (State → ℕ → Answer × State)
    → Answer × State
in_slot s full does = option_map_or (does (swept_if_full s)) (free s) (full (swept_if_full s))

-- The state in which a thread ended that couldn't follow a broadcast: where it found no free slot,
-- the one after the sweep.
abbrev pub at_abort : AbortCause → State → State
at_abort Perm s = s
at_abort Full s = swept s

-- where no slot is free
abbrev pub table_full : State → Answer × State
table_full s = (TableFull, s)

-- the state in which one more credential is sealed
abbrev pub sealed : State → Credential → ℕ → State
sealed s c slot = record s { creds = s.creds ++ record { cred = c; slot = slot } ∷ [] }

-- the tasks, where this one has another current credential
abbrev pub updated : ℕ → ℕ → Task → Task
updated task number t = if t.number == task then record t { current = number } else t

abbrev pub with_current : List Task → ℕ → ℕ → List Task
with_current tasks task number = map (updated task number) tasks

-- a new task, which overrides nothing
abbrev pub first_task : (task process number : ℕ) → Task
first_task task process number =
    record { number = task; process = process; current = number; overrides = [] }

-- A first task is created with its first credential.
abbrev pub created : State → Task → Credential → ℕ → State
created s task c slot =
    let now = sealed s c slot in
    record now { tasks = s.tasks ++ task ∷ [] }

-- The task's credential is replaced: the new one is sealed and becomes its current one, and the old
-- one is given up.
abbrev pub replaced : State → (task old : ℕ) → Credential → (slot : ℕ) → State
replaced s task old c slot =
    let now = sealed s c slot in
    record now {
      tasks = with_current s.tasks task (length s.creds);
      deferred = s.deferred ++ old ∷ [];
    }

-- the tasks, where this one acts with these credentials, the newest first
abbrev pub overriding : ℕ → List ℕ → Task → Task
overriding task numbers t = if t.number == task then record t { overrides = numbers } else t

abbrev pub with_overrides : List Task → ℕ → List ℕ → List Task
with_overrides tasks task numbers = map (overriding task numbers) tasks

-- A label takes hold of a credential.
abbrev pub holding : State → ℕ → ℕ → State
holding s label number =
    record s { holds = s.holds ++ record { label = label; number = number } ∷ [] }

-- A label prepares a new credential.
abbrev pub preparing : State → Prepared → State
preparing s p = record s { prepared = s.prepared ++ p ∷ [] }

-- what a label prepares, with this change where it is this label
abbrev pub altered_at : ℕ → Changed → Prepared → Prepared
altered_at label to p = if p.label == label then record p { changed = Some to } else p

-- the prepared labels, where this one has the change
abbrev pub with_change : List Prepared → ℕ → Changed → List Prepared
with_change prepared label to = map (altered_at label to) prepared

-- What a label prepares was changed.
abbrev pub altered : State → ℕ → Changed → State
altered s label to = record s { prepared = with_change s.prepared label to }

-- The prepared label at this place is given up, and its slot with it: it no longer refers to its
-- base.
abbrev pub given_up : State → ℕ → Prepared → State
given_up s place p = record s {
  prepared = remove s.prepared place;
  deferred = s.deferred ++ p.base ∷ [];
}

-- The prepared label at this place is committed: the credential is sealed in the slot that was kept
-- for it, and becomes the task's current one. The old one and the base are given up.
abbrev pub committed : State → ℕ → Prepared → ℕ → Credential → State
committed s place p old c =
    let now = sealed s c p.slot in
    record now {
      tasks = with_current s.tasks p.task (length s.creds);
      prepared = remove s.prepared place;
      deferred = s.deferred ++ old ∷ p.base ∷ [];
    }

-- The task acts with the credential of this number from now on.
abbrev pub with_override : State → Task → ℕ → State
with_override s owner number =
    record s { tasks = with_overrides s.tasks owner.number (number ∷ owner.overrides) }

-- The prepared label at this place overrides its task's credential: what it prepared is sealed in
-- the slot that was kept for it, and the task acts with it. The base is given up.
abbrev pub overridden : State → ℕ → Prepared → Task → Credential → State
overridden s place p owner c =
    let now = with_override (sealed s c p.slot) owner (length s.creds) in
    record now { prepared = remove s.prepared place; deferred = s.deferred ++ p.base ∷ [] }
