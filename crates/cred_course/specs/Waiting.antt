-- How many tasks wait.
use Rattle.std.specs.Prelude.{ℕ, List, length}
use Rattle.std.specs.List.{sum_by}
use Rattle.cred_model.specs.State.{State, Broadcast}

-- how many tasks wait to make a call that one of their process has begun
abbrev pub waiting_in : List Broadcast → ℕ
waiting_in broadcasts = sum_by (λ broadcast. length broadcast.waiting) broadcasts

-- how many wait in a state
abbrev pub waiting : State → ℕ
waiting s = waiting_in s.broadcasts
