-- Which processes have a flag that says whether they are dumpable (prctl(2), PR_SET_DUMPABLE).
use Rattle.std.specs.Prelude.{◌≡◌, ◌≢◌, ℕ, List, find, is_some}
use Rattle.std.specs.List.{AllPairs}
use Rattle.cred_model.specs.State.{Task, ProcessFlag}
use Rattle.cred_model.specs.Ends.{is_thread_of}
use Rattle.cred_model.specs.Dumpable.{flag_in}

-- No process has two flags, and one has a flag exactly where it has threads.
pub record AreFlagged (tasks : List Task) (flags : List ProcessFlag) : Type 0 where
  pub apart : AllPairs (λ a b. a.process ≢ b.process) flags
  pub own : (process : ℕ)
      → is_some (flag_in flags process) ≡ is_some (find (is_thread_of process) tasks)
