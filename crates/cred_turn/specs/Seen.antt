-- What contracts see of a roll and of a pass.
use Rattle.std.specs.Prelude.{ℕ, List}
use Rattle.atomic_table.specs.Seated.{TableId}
use Rattle.cred_turn.specs.declared.numbers.LaneNumbers.{LaneNumbers}
use Rattle.cred_turn.specs.declared.view.LaneRow.{LaneRow}

-- a roll: its identity and its rows
pub record Rolled : Type 0 where
  pub id : TableId
  pub rows : List LaneRow

-- a pass: the identity of its roll, its lane, and the numbers with which the lane's row was lent
pub record Passed : Type 0 where
  pub roll : TableId
  pub lane : ℕ
  pub numbers : LaneNumbers

-- a pass of these parts
abbrev pub pass : TableId → ℕ → LaneNumbers → Passed
pass roll lane numbers = record { roll = roll; lane = lane; numbers = numbers }
