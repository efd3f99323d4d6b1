-- The rows of a roll: one for each lane, that of lane 1 first.
use Rattle.std.specs.Prelude.{ℕ, ◌-◌, ◌<◌, ◌≤◌, List, length, None, true, false}
use Rattle.std.specs.Prelude.{slice_index_or, slice_set}
use Rattle.cred_turn.specs.declared.numbers.LaneNumbers.{LaneNumbers}
use Rattle.cred_turn.specs.declared.view.LaneRow.{LaneRow}

-- the numbers of a lane for which nothing was done yet
abbrev pub fresh : LaneNumbers
fresh = record { entered = 0; decided = 0; ended = 0; out = None }

-- a row that is not lent
abbrev pub home_row : LaneNumbers → LaneRow
home_row numbers = record { numbers = numbers; lent = false }

-- a row whose pass is out
abbrev pub lent_row : LaneNumbers → LaneRow
lent_row numbers = record { numbers = numbers; lent = true }

-- the lane has a row
abbrev pub HasRow : List LaneRow → ℕ → Type 0
HasRow rows lane = (0 < lane) × (lane ≤ length rows)

-- the row of a lane that has one
abbrev pub row_of : List LaneRow → ℕ → LaneRow
row_of rows lane = slice_index_or rows (lane - 1) (home_row fresh)

-- the rows, where this is now the row of a lane that has one
abbrev pub with_row : List LaneRow → ℕ → LaneRow → List LaneRow
with_row rows lane row = slice_set rows (lane - 1) row
