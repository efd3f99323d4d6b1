-- What holds of each open broadcast (nptl(7)).
use Rattle.std.specs.Prelude.{◌≡◌, ℕ, ◌<◌, ◌==◌, true, false, List, All, find, Some}
use Rattle.std.specs.List.{AllPairs}
use Rattle.std.specs.Option.{option_map}
use Rattle.cred_model.specs.State.{Task, Broadcast}
use Rattle.cred_model.specs.Broadcasts.{waits_in, is_open}

-- a live thread of this process
abbrev pub IsThread : List Task → ℕ → ℕ → Type 0
IsThread tasks process number =
    option_map (λ t. t.process) (find (λ t. t.number == number) tasks) ≡ Some process

-- Somebody waits in the broadcast: live threads of its process, in rising order, none of them
-- twice. Its caller is a live thread of that process too, and doesn't wait.
pub record IsUnderWay (tasks : List Task) (broadcast : Broadcast) : Type 0 where
  pub caller : IsThread tasks broadcast.process broadcast.caller
  pub called : waits_in broadcast.caller broadcast ≡ false
  pub waiting : All (IsThread tasks broadcast.process) broadcast.waiting
  pub rising : AllPairs (λ a b. a < b) broadcast.waiting
  pub some : is_open broadcast ≡ true
