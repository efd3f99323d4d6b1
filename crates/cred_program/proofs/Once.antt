-- The process ends with the number of the status that its one run had.
use Rattle.std.proofs.Common.{◌≡◌, ℕ, Bool, List}
use Rattle.cred_output.specs.Statuses.{code_of}
use Rattle.cred_output.specs.declared.status.Status.{Status}
use Rattle.cred_program.specs.Runs.{EndsWith, RunsOnce, Stream}

pub ends : (words : List (List ℕ)) (answer : Status) (code : ℕ) (source sink : Stream) (handed : Bool) (unread unwritten : Type 0) → code ≡ code_of answer
    → RunsOnce words answer source sink handed unread unwritten → EndsWith words code source sink handed unread unwritten
ends words answer code source sink handed unread unwritten is once = record { answer = answer; code_is = is; once = once }
