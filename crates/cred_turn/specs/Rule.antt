-- The rule of the passes over plain lists, and the three kinds of step.
use Rattle.std.specs.Prelude.{◌≡◌, ◌≢◌, ℕ, List, [], ◌∷◌, Option, Some, None, replicate, ⊤}
use Rattle.std.specs.List.{AllByRecursion}
use Rattle.cred_turn.specs.Rows.{fresh, home_row, lent_row, HasRow, row_of, with_row}
use Rattle.cred_turn.specs.declared.numbers.LaneNumbers.{LaneNumbers}
use Rattle.cred_turn.specs.declared.view.LaneRow.{LaneRow}
use Rattle.cred_turn.specs.declared.view.LentPass.{LentPass}
use Rattle.cred_turn.specs.declared.view.TurnView.{TurnView}
use Rattle.cred_turn.specs.declared.view.TurnView.TheVariants.{Roll, Pass, Spent}

abbrev pub lent_pass : ℕ → LaneNumbers → LentPass
lent_pass lane numbers = record { lane = lane; numbers = numbers }

-- the passes among the views
abbrev pub passes : List TurnView → List LentPass
passes [] = []
passes (Roll rows kept ∷ vs) = passes vs
passes (Pass p ∷ vs) = p ∷ passes vs
passes (Spent ∷ vs) = passes vs

-- the pass kept aside, as a view
abbrev pub pass_aside : Option LentPass → TurnView
pass_aside None = Spent
pass_aside (Some p) = Pass p

-- the view is not the roll's
abbrev pub IsNoRoll : TurnView → Type 0
IsNoRoll (Roll rows kept) = ⊥
IsNoRoll (Pass p) = ⊤
IsNoRoll Spent = ⊤

-- the pass's lane has a row, which is lent and has the pass's numbers
abbrev pub IsOfRow : List LaneRow → LentPass → Type 0
IsOfRow rows p = HasRow rows p.lane × (row_of rows p.lane ≡ lent_row p.numbers)

-- no two share a lane
abbrev pub LanesApart : List LentPass → Type 0
LanesApart [] = ⊤
LanesApart (p ∷ ps) = AllByRecursion (λ q. q.lane ≢ p.lane) ps × LanesApart ps

-- the rule, with the rows, the pass kept aside and the other views. The one word is 0; the roll's
-- view is the first, and no other is a roll's; each pass that is out, and the one kept aside, is of
-- a row that is lent and has its numbers, and no two of them share a lane
pub record KeepsPasses
    (words : List ℕ) (views : List TurnView)
    (rows : List LaneRow) (kept : Option LentPass) (others : List TurnView) : Type 0 where
  pub word : words ≡ 0 ∷ []
  pub views_are : views ≡ Roll rows kept ∷ others
  pub one_roll : AllByRecursion IsNoRoll others
  pub of_rows : AllByRecursion (IsOfRow rows) (passes (pass_aside kept ∷ others))
  pub apart : LanesApart (passes (pass_aside kept ∷ others))

-- the rule: there are rows, a pass kept aside or none, and other views with which it holds
abbrev pub PassRuleHolds : List ℕ → List TurnView → Type 0
PassRuleHolds words views =
    (rows : List LaneRow) × (kept : Option LentPass) × (others : List TurnView) ×
    KeepsPasses words views rows kept others

-- ---- the steps

-- the roll's first view: no row is lent
abbrev pub first_roll : ℕ → TurnView
first_roll lanes = Roll (replicate lanes (home_row fresh)) None

-- the rows of the roll's view
abbrev pub rows_of : TurnView → List LaneRow
rows_of (Roll rows kept) = rows
rows_of (Pass p) = []
rows_of Spent = []

-- what a pass's view carries
abbrev pub lent_of : TurnView → LentPass
lent_of (Roll rows kept) = lent_pass 0 fresh
lent_of (Pass p) = p
lent_of Spent = lent_pass 0 fresh

-- the views after a loan: the roll's, and the new one
abbrev pub after_lending_pass : ℕ → LaneNumbers → TurnView → TurnView
after_lending_pass lane numbers (Roll rows kept) = Roll (with_row rows lane (lent_row numbers)) kept
after_lending_pass lane numbers (Pass p) = Pass p
after_lending_pass lane numbers Spent = Spent

abbrev pub pass_of : ℕ → LaneNumbers → TurnView
pass_of lane numbers = Pass (lent_pass lane numbers)

-- the pass of a view, if it has one
abbrev pub pass_in_view : TurnView → Option LentPass
pass_in_view (Roll rows kept) = None
pass_in_view (Pass p) = Some p
pass_in_view Spent = None

-- the roll's view after a return: the pass is kept aside
abbrev pub after_return_of_pass : TurnView → TurnView → TurnView
after_return_of_pass (Roll rows kept) w = Roll rows (pass_in_view w)
after_return_of_pass (Pass p) w = Pass p
after_return_of_pass Spent w = Spent

-- what the load after a return reports: the pass kept aside is of a row that is lent and has its
-- numbers. It is taken away, and the row is not lent
abbrev pub LearnedPass : TurnView → TurnView → Type 0
LearnedPass (Roll rows (Some p)) w =
    IsOfRow rows p × (w ≡ Roll (with_row rows p.lane (home_row p.numbers)) None)
LearnedPass (Roll rows None) w = w ≡ Roll rows None
LearnedPass (Pass p) w = w ≡ Pass p
LearnedPass Spent w = w ≡ Spent
