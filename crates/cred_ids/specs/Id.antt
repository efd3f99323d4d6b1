-- The id of a user or a group (credentials(7)).
use Rattle.std.specs.Prelude.{ℕ, ◌<◌}

-- the number that is no id: as the argument of a call it is -1, 'keep the id' (setresuid(2))
abbrev pub NO_ID : ℕ
NO_ID = 4294967295

-- n is an id
abbrev pub IsId : ℕ → Type 0
IsId n = n < NO_ID
