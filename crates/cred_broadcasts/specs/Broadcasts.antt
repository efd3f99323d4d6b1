-- The table of open broadcasts, as the list of them (nptl(7)).
use Rattle.std.specs.Prelude.{◌≡◌, ◌≢◌, ℕ, Bool, ◌<◌, ◌==◌, true, List, All, find, Ok}
use Rattle.std.specs.declared.option.Option.{Option}
use Rattle.std.specs.List.{AllPairs}
use Rattle.cred_record.specs.Credential.{Credential}
use Rattle.cred_record.specs.declared.id_call.IdCall.{IdCall}
use Rattle.cred_rules.specs.SetId.{set_id}
use Rattle.cred_model.specs.Dumpable.{differs}
use Rattle.cred_model.specs.State.{Broadcast}
use Rattle.cred_model.specs.Broadcasts.{is_open, SharesNone}

-- the broadcast of this number
abbrev pub broadcast_under : List Broadcast → ℕ → Option Broadcast
broadcast_under broadcasts number = find (λ b. b.number == number) broadcasts

-- the broadcast that is open in a process
abbrev pub broadcast_within : List Broadcast → ℕ → Option Broadcast
broadcast_within broadcasts process = find (λ b. b.process == process) broadcasts

-- the broadcast that a task has begun
abbrev pub broadcast_by : List Broadcast → ℕ → Option Broadcast
broadcast_by broadcasts task = find (λ b. b.caller == task) broadcasts

-- No two share a number, no two are open in one process, and no task waits in two. In each
-- somebody waits: those tasks in rising order, none of them twice.
pub record AreBroadcasts (broadcasts : List Broadcast) : Type 0 where
  pub numbers : AllPairs (λ a b. a.number ≢ b.number) broadcasts
  pub processes : AllPairs (λ a b. a.process ≢ b.process) broadcasts
  pub apart : AllPairs SharesNone broadcasts
  pub rising : All (λ b. AllPairs (λ m n. m < n) b.waiting) broadcasts
  pub some : All (λ b. is_open b ≡ true) broadcasts

-- The call makes the second credential of the first, and `ids_changed` says whether an effective
-- or a filesystem id is another one in it.
pub record MakesOf (call : IdCall) (before after : Credential) (ids_changed : Bool) : Type 0 where
  pub made : set_id before call ≡ Ok after
  pub differs_so : ids_changed ≡ differs before after
