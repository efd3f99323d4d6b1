-- The rule of the passes, as what the table holds between any two steps.
use Rattle.std.specs.Prelude.{◌≡◌, ℕ, List, [], ◌∷◌, Option, Some, None, slice_get}
use Rattle.cred_turn.specs.Rows.{lent_row, HasRow, row_of}
use Rattle.cred_turn.specs.Rule.{PassRuleHolds}
use Rattle.cred_turn.specs.declared.view.LaneRow.{LaneRow}
use Rattle.cred_turn.specs.declared.view.LentPass.{LentPass}
use Rattle.cred_turn.specs.declared.view.TurnView.{TurnView}
use Rattle.cred_turn.specs.declared.view.TurnView.TheVariants.{Roll, Pass, Spent}

-- 1. exactly one view is the roll's
pub record OneRoll (views : List TurnView) (rows : List LaneRow) (kept : Option LentPass)
    : Type 0 where
  pub is_there : slice_get views 0 ≡ Some (Roll rows kept)
  pub no_other :
      (i : ℕ) (r : List LaneRow) (k : Option LentPass) → slice_get views i ≡ Some (Roll r k) → i ≡ 0

-- the pass that a view has: its own, or the one that the roll keeps aside
abbrev pub pass_in : TurnView → Option LentPass
pass_in (Roll rows kept) = kept
pass_in (Pass p) = Some p
pass_in Spent = None

-- the view i has the pass
abbrev pub HasPass : List TurnView → ℕ → LentPass → Type 0
HasPass views i p = (v : TurnView) × (slice_get views i ≡ Some v) × (pass_in v ≡ Some p)

-- 2. each pass's view, and the one kept aside, has a lane whose row is lent, and that row's
-- numbers. No two of these views share a lane
pub record OfRows (views : List TurnView) (rows : List LaneRow) : Type 0 where
  pub has_row : (i : ℕ) (p : LentPass) → HasPass views i p → HasRow rows p.lane
  pub same_numbers :
      (i : ℕ) (p : LentPass) → HasPass views i p → row_of rows p.lane ≡ lent_row p.numbers
  pub apart :
      (i j : ℕ) (p q : LentPass) → HasPass views i p → HasPass views j q → p.lane ≡ q.lane → i ≡ j

pub record PassHasPoints (words : List ℕ) (views : List TurnView) : Type 0 where
  pub word : words ≡ 0 ∷ []
  pub rows : List LaneRow
  pub kept : Option LentPass
  pub one_roll : OneRoll views rows kept
  pub of_rows : OfRows views rows

-- where the rule holds, so do the points
abbrev pub PassRuleHasPoints : Type 0
PassRuleHasPoints =
    (words : List ℕ) (views : List TurnView) → PassRuleHolds words views → PassHasPoints words views
