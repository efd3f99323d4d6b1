-- Which tasks end, and what is said of one task.
use Rattle.std.specs.Prelude.{◌≡◌, ◌≢◌, ℕ, ◌==◌, ◌&&◌, Bool, false, not, List, find, map}
use Rattle.std.specs.Prelude.{slice_get, IfSome, Some}
use Rattle.std.specs.List.{AllPairs, filter}
use Rattle.std.specs.Option.{option_map}
use Rattle.cred_ids.specs.Ordered.{in_order}
use Rattle.cred_event.specs.declared.event.Change.{Change}
use Rattle.cred_event.specs.declared.event.Change.TheVariants.{Exec}
use Rattle.cred_model.specs.State.{Task}
use Rattle.cred_model.specs.Ends.{is_task, is_thread_of}
use Rattle.cred_plain.specs.declared.one_task.Ending.{Ending}
use Rattle.cred_plain.specs.declared.one_task.Ending.TheVariants.{Nobody, Process, Others}
use Rattle.cred_plain.specs.declared.one_task.Ending.TheVariants as ending

-- another thread of the process than this one
abbrev pub is_other_thread : ℕ → ℕ → Task → Bool
is_other_thread process task t = is_thread_of process t && not (is_task task t)

-- the tasks that end
abbrev pub ends_by : Ending → Task → Bool
ends_by Nobody t = false
ends_by (ending.Task number) t = is_task number t
ends_by (Process process) t = is_thread_of process t
ends_by (Others process task) t = is_other_thread process task t

-- The tasks that end where a task of this process commits a change: all other threads of the
-- process with an execve (execve(2)), and none with another change.
abbrev pub ending_of : Change → ℕ → ℕ → Ending
ending_of (Exec file) process task = Others process task
ending_of change process task = Nobody

-- the other threads of a process, in rising order
abbrev pub others_in : ℕ → ℕ → List Task → List ℕ
others_in process task tasks =
    in_order (map (λ t. t.number) (filter (is_other_thread process task) tasks))

-- At the place stands a task of this number.
abbrev pub IsTaskAt : List Task → ℕ → ℕ → Type 0
IsTaskAt tasks number place = option_map (λ t. t.number) (slice_get tasks place) ≡ Some number

-- Where no two tasks share a number, this holds of the task of that number, if it is alive.
abbrev pub OfOneTask : List Task → ℕ → (Task → Type 0) → Type 0
OfOneTask tasks task P =
    AllPairs (λ a b. a.number ≢ b.number) tasks → IfSome (find (λ t. t.number == task) tasks) P
