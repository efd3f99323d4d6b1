-- How many bytes the end of an entry takes at most. A word counts with the spaces that stand in it.
use Rattle.std.specs.Prelude.{ℕ, ◌+◌}
use Rattle.cred_report.specs.Room.{ANSWER}

-- what comes after an event: ` -> `, the answer, and the end of the line
abbrev pub END : ℕ
END = 4 + ANSWER + 1
