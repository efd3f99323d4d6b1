-- What is true of every course.
use Rattle.std.specs.Prelude.{ℕ, ◌≤◌}
use Rattle.cred_ids.specs.Limits.{TRIES, LINE_LIMIT}

-- The number of the course's line is that of a line, and the try is one of those that a line has.
pub record IsInRange (number tries : ℕ) : Type 0 where
  pub line : number ≤ LINE_LIMIT
  pub begun : 1 ≤ tries
  pub few : tries ≤ TRIES
