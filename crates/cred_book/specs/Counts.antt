-- How far each lane has come, as numbers.
use Rattle.std.specs.Prelude.{◌≡◌, ◌≢◌, ◌<◌, ◌==◌, ◌&&◌, ◌⊎◌, ℕ, ◌+◌, List, [], ◌∷◌, Bool, false}
use Rattle.std.specs.Prelude.{None, Some, fold, is_none, slice_index_or, if◌then◌else◌}
use Rattle.std.specs.declared.option.Option.{Option}
use Rattle.std.specs.List.{sum_by}
use Rattle.std.specs.Option.{option_map_or}
use Rattle.cred_event.specs.declared.entry.Entry.{Entry}
use Rattle.cred_model.specs.Script.{Script, Line}
use Rattle.cred_model.specs.State.{State, opening}
use Rattle.cred_model.specs.Step.{step}
use Rattle.cred_model.specs.Journal.{due_in, lane_of, next_event}
use Rattle.cred_tables.specs.Out.{needs_tokens}
use Rattle.cred_book.specs.Book.{Recorded, out_of}
use Rattle.cred_book.specs.declared.step.Step.{Step}
use Rattle.cred_book.specs.declared.step.Step.TheVariants.{More, Ended}
use Rattle.cred_book.specs.declared.step.Step.TheVariants as step

-- 1 for yes, 0 for no
abbrev pub count_of : Bool → ℕ
count_of test = if test then 1 else 0

-- the entry is of a line of the lane
abbrev pub is_of_lane : Script → ℕ → Entry → Bool
is_of_lane script lane entry = option_map_or (λ own. own == lane) (lane_of script entry.line) false

-- how many entries were made for the lane
abbrev pub entered_of : Script → List Entry → ℕ → ℕ
entered_of script journal lane = sum_by (λ entry. count_of (is_of_lane script lane entry)) journal

-- a state, and how many entries of a lane before it were works'
pub record Tally : Type 0 where
  pub state : State
  pub decided : ℕ

abbrev pub first_tally : Script → Tally
first_tally script = record { state = opening script; decided = 0 }

-- The entry is a work's if its event waits for a decision in the state before it.
abbrev pub tallied : Script → ℕ → Tally → Entry → Tally
tallied script lane tally entry = record {
  state = (step script tally.state entry.line entry.event).1;
  decided = tally.decided
      + count_of (is_of_lane script lane entry && needs_tokens tally.state entry.event);
}

-- how many of the lane's entries were works'
abbrev pub decided_of : Script → List Entry → ℕ → ℕ
decided_of script journal lane =
    (fold (tallied script lane) (first_tally script) journal).decided

-- how many of these lines, the first of which has this number, are the lane's and have ended
abbrev pub ended_from : List Entry → ℕ → ℕ → List Line → ℕ
ended_from journal lane number [] = 0
ended_from journal lane number (line ∷ lines) =
    count_of (line.lane == lane && is_none (next_event journal number line.content))
    + ended_from journal lane (number + 1) lines

-- how many lines of the lane have ended
abbrev pub ended_of : Script → List Entry → ℕ → ℕ
ended_of script journal lane = ended_from journal lane 1 script.lines

-- of each lane it is counted how many of its lines have ended; of one past the last, none
abbrev pub AreEnded : Script → List Entry → List ℕ → Type 0
AreEnded script journal ended =
    (lane : ℕ) → slice_index_or ended lane 0 ≡ ended_of script journal lane

-- how many lines the lane has
abbrev pub lines_in : Script → ℕ → ℕ
lines_in script lane = sum_by (λ line. count_of (line.lane == lane)) script.lines

-- all lines of the setup have ended, so that no lane waits
abbrev pub IsSetUp : Recorded → Type 0
IsSetUp book = due_in book.script book.journal 0 ≡ None

-- the number is as it was, or one more
abbrev pub IsSameOrNext : ℕ → ℕ → Type 0
IsSameOrNext was is = (is ≡ was) ⊎ (is ≡ was + 1)

-- For this lane this is now the line whose work is out. For all others it is the one that was.
pub record IsOutNow (before after : Recorded) (lane : ℕ) (line : Option ℕ) : Type 0 where
  pub own : out_of after lane ≡ line
  pub others : (other : ℕ) → other ≢ lane → out_of after other ≡ out_of before other

-- The lane had a line left. It has one entry more, a work's where `works` is 1 and not where it is
-- 0, and one ended line more at most. Of all other lanes the numbers are as they were. A setup that
-- has ended stays so. No work of the lane is out now, and of the others those that were.
pub record HasEntered (before after : Recorded) (lane works : ℕ) : Type 0 where
  pub left : ended_of before.script before.journal lane < lines_in before.script lane
  pub own : entered_of after.script after.journal lane
      ≡ entered_of before.script before.journal lane + 1
  pub own_decided : decided_of after.script after.journal lane
      ≡ decided_of before.script before.journal lane + works
  pub own_ended : IsSameOrNext (ended_of before.script before.journal lane)
      (ended_of after.script after.journal lane)
  pub entered : (other : ℕ) → other ≢ lane
      → entered_of after.script after.journal other ≡ entered_of before.script before.journal other
  pub decided : (other : ℕ) → other ≢ lane
      → decided_of after.script after.journal other ≡ decided_of before.script before.journal other
  pub ended : (other : ℕ) → other ≢ lane
      → ended_of after.script after.journal other ≡ ended_of before.script before.journal other
  pub set_up : IsSetUp before → IsSetUp after
  pub outs : IsOutNow before after lane None

-- What a step of a lane does to the numbers. An entry that it makes is no work's. Where a work goes
-- out nothing is entered. Where no lane waits, it does one of the two exactly if a line of the lane
-- is left.
abbrev pub Counts : Recorded → Recorded → ℕ → Step → Type 0
Counts before after lane More = HasEntered before after lane 0
Counts before after lane (step.Work work) =
    (ended_of before.script before.journal lane < lines_in before.script lane)
    × (after.journal ≡ before.journal)
    × IsOutNow before after lane (Some work.line)
Counts before after lane Ended =
    IsSetUp before → ended_of before.script before.journal lane ≡ lines_in before.script lane
