-- What is true of the open broadcasts by themselves, without the tasks.
use Rattle.std.specs.Prelude.{◌≡◌, ℕ, ◌<◌, true, List, [], ◌∷◌, ◌++◌, All}
use Rattle.std.specs.List.{AllPairs}
use Rattle.cred_ids.specs.Ordered.{in_order}
use Rattle.cred_model.specs.State.{Broadcast}
use Rattle.cred_model.specs.Broadcasts.{is_open, SharesNone}

-- No task waits in two. In each somebody waits: those tasks in rising order, none of them twice.
pub record AreWaitedFor (broadcasts : List Broadcast) : Type 0 where
  pub apart : AllPairs SharesNone broadcasts
  pub rising : All (λ b. AllPairs (λ m n. m < n) b.waiting) broadcasts
  pub some : All (λ b. is_open b ≡ true) broadcasts

-- the broadcast, where one more thread waits
abbrev pub joins : ℕ → Broadcast → Broadcast
joins child broadcast = record broadcast { waiting = in_order (broadcast.waiting ++ child ∷ []) }
