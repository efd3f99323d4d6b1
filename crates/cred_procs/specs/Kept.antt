-- How the tasks are kept: each by its number, and the threads of each process by the process's.
use Rattle.std.specs.Prelude.{◌≡◌, ℕ, nat_eq, List, [], map}
use Rattle.std.specs.Option.{option_map_or}
use Rattle.indexmap.specs.IndexMap.{get}
use Rattle.cred_model.specs.State.{Task}
use Rattle.cred_procs.specs.declared.processes.Processes.{Processes}
use Rattle.cred_procs.specs.declared.thread.Thread.{Thread}
use Rattle.cred_procs.specs.Tasks.{AreTasks, members}

-- an entry of the map, as a task
abbrev pub task_as : ℕ → Thread → Task
task_as number t = record {
  number = number;
  process = t.process;
  current = t.current;
  overrides = t.overrides;
}

abbrev pub tasks_of : List (ℕ × Thread) → List Task
tasks_of entries = map (λ e. task_as e.0 e.1) entries

-- the threads that are kept of a process
abbrev pub threads_at : Processes → ℕ → List ℕ
threads_at processes process =
    option_map_or (λ threads. threads.items) (get nat_eq processes.threads process) []

-- The threads that are kept of each process are those of the tasks.
pub record AreGrouped (tasks : List Task) (processes : Processes) : Type 0 where
  pub sound : AreTasks tasks
  pub grouped : (process : ℕ) → threads_at processes process ≡ members tasks process
