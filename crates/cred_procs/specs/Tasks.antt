-- The live tasks, in the order in which they were created: what is found among them, and what is
-- left when one is created, changes its credentials or ends (credentials(7), nptl(7)).
use Rattle.std.specs.Prelude.{◌≡◌, ℕ, ◌≤◌, Bool, nat_eq, List, [], ◌∷◌, ◌++◌, All, filter}
use Rattle.std.specs.Prelude.{find, is_some, length, map}
use Rattle.std.specs.declared.option.Option.{Option}
use Rattle.std.specs.List.{IsDistinct}
use Rattle.std.specs.Option.{option_map_or}
use Rattle.cred_ids.specs.Ordered.{in_order}
use Rattle.cred_ids.specs.Limits.{TASKS, DEPTH}
use Rattle.cred_model.specs.State.{Task}
use Rattle.cred_model.specs.Ends.{is_task, is_thread_of, survivors, left_by}
use Rattle.cred_model.specs.Moves.{first_task}

-- What is true of the tasks at all times.
pub record AreTasks (tasks : List Task) : Type 0 where
  -- no two share a number
  pub apart : IsDistinct nat_eq (map (λ t. t.number) tasks)
  pub few : length tasks ≤ TASKS
  pub shallow : All (λ t. length t.overrides ≤ DEPTH) tasks

-- the task of this number, if it is alive
abbrev pub task_in : List Task → ℕ → Option Task
task_in tasks task = find (is_task task) tasks

-- those tasks that pass a test, in the order in which they were created
abbrev pub those : (Task → Bool) → List Task → List ℕ
those passes tasks = map (λ t. t.number) (filter passes tasks)

-- ---- processes

-- the threads of a process, in the order in which they were created
abbrev pub members : List Task → ℕ → List ℕ
members tasks process = those (is_thread_of process) tasks

-- the threads of a process, in rising order
abbrev pub threads_of : List Task → ℕ → List ℕ
threads_of tasks process = in_order (members tasks process)

-- whether a process has a thread
abbrev pub has_process : List Task → ℕ → Bool
has_process tasks process = is_some (find (is_thread_of process) tasks)

-- ---- tasks that end

-- The tasks that pass the test ended, at most 64, and gave up the numbers that they referred to.
-- The others stay in their order.
pub record EndsTasks (ends : Task → Bool) (before after : List Task) (tasks numbers : List ℕ)
    : Type 0 where
  pub ended : tasks ≡ those ends before
  pub few : length tasks ≤ TASKS
  pub gave_up : numbers ≡ left_by ends before
  pub left : after ≡ survivors ends before

-- ---- tasks that are created, the newest last

-- a thread of its creator's process, which shares the creator's current credential
abbrev pub spawned : List Task → ℕ → ℕ → List Task
spawned tasks task child =
    option_map_or (λ t. tasks ++ first_task child t.process t.current ∷ []) (task_in tasks task)
    tasks

-- the first thread of another process, which shares its creator's current credential
abbrev pub forked : List Task → (task child process : ℕ) → List Task
forked tasks task child process =
    option_map_or (λ t. tasks ++ first_task child process t.current ∷ []) (task_in tasks task)
    tasks

-- ---- overrides

-- the numbers of a task's overrides, the newest first
abbrev pub overrides_of : List Task → ℕ → List ℕ
overrides_of tasks task = option_map_or (λ t. t.overrides) (task_in tasks task) []
