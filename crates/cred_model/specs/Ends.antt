-- Which tasks end with an event, and what they give up.
use Rattle.std.specs.Prelude.{ℕ, Bool, ◌==◌, ◌&&◌, not, List, ◌∷◌, ◌++◌}
use Rattle.std.specs.List.{filter, flat_map}
use Rattle.cred_model.specs.State.{State, Task}

-- What a task refers to: its current credential first, then those that it acts with in its place,
-- the newest first.
abbrev pub numbers_of : Task → List ℕ
numbers_of t = t.current ∷ t.overrides

-- a task of this number
abbrev pub is_task : ℕ → Task → Bool
is_task number t = t.number == number

-- a thread of this process
abbrev pub is_thread_of : ℕ → Task → Bool
is_thread_of process t = t.process == process

-- another thread of the task's process
abbrev pub is_beside : Task → Task → Bool
is_beside task t = is_thread_of task.process t && not (is_task task.number t)

-- the tasks that go on, where these end
abbrev pub survivors : (Task → Bool) → List Task → List Task
survivors ends tasks = filter (λ t. not (ends t)) tasks

-- the numbers that those which end referred to, task by task
abbrev pub left_by : (Task → Bool) → List Task → List ℕ
left_by ends tasks = flat_map numbers_of (filter ends tasks)

-- These tasks end: what they referred to is given up. Their holds and prepared labels stay.
abbrev pub ended : (Task → Bool) → State → State
ended ends s = record s {
  tasks = survivors ends s.tasks;
  deferred = s.deferred ++ left_by ends s.tasks;
}
