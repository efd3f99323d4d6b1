-- What a commit makes of the ids that decide whether the task's process stays dumpable.
use Rattle.std.specs.Prelude.{ℕ, Bool, false}
use Rattle.std.specs.Option.{option_map_or}
use Rattle.cred_model.specs.Dumpable.{differs}
use Rattle.cred_model.specs.State.{State, Changed, current_of}

-- An effective or a filesystem id, of the user or of the group, is another one in what was changed
-- than in the task's current credential.
abbrev pub differs_from : State → ℕ → Changed → Bool
differs_from s task last =
    option_map_or (λ old. differs old.cred last.cred) (current_of s task) false
