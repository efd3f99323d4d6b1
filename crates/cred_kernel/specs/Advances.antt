-- What a call did to a turn.
use Rattle.std.specs.Prelude.{◌≡◌, ℕ, ◌+◌, ◌<◌, List, Some, None, Result, Ok, Err}
use Rattle.atomic_table.specs.Seated.{TableId}
use Rattle.cred_record.specs.File.{File}
use Rattle.cred_model.specs.Script.{Script}
use Rattle.cred_turn.specs.declared.numbers.LaneNumbers.{LaneNumbers}
use Rattle.cred_work.specs.Work.{Work}
use Rattle.cred_work.specs.DecidedWorks.{IsUndecided}
use Rattle.cred_book.specs.Counts.{IsSameOrNext, lines_in}
use Rattle.cred_book.specs.Works.{IsWorkOf}
use Rattle.cred_book.specs.declared.step.Step.{Step}
use Rattle.cred_book.specs.declared.step.Step.TheVariants.{More, Ended}
use Rattle.cred_book.specs.declared.step.Step.TheVariants as step
use Rattle.cred_kernel.specs.Turns.{SeenTurn, LaneHasEnded}

-- The turn had a line left, and has entered one event more, which had gone out as a work first
-- where `works` is 1, and not where it is 0. At most one of its lines has ended by that.
pub record TurnHasEntered (script : Script) (works : ℕ) (old new : SeenTurn) : Type 0 where
  pub lane : new.lane ≡ old.lane
  pub entered : new.numbers.entered ≡ old.numbers.entered + 1
  pub decided : new.numbers.decided ≡ old.numbers.decided + works
  pub out : new.numbers.out ≡ None
  pub left : old.numbers.ended < lines_in script old.lane
  pub ended : IsSameOrNext old.numbers.ended new.numbers.ended

-- The turn had a line left, whose next event has gone out as a work of the script, of these files
-- and of these cells. It is not decided yet, and nothing was entered.
pub record HasGiven
    (script : Script) (inodes : List File) (cells : TableId)
    (old new : SeenTurn) (work : Work) : Type 0 where
  pub turn : new ≡ record {
    lane = old.lane;
    numbers = record old.numbers { out = Some work.line };
  }
  pub left : old.numbers.ended < lines_in script old.lane
  pub work_is : IsWorkOf script inodes cells work
  pub waits : IsUndecided work

-- What a step made of the turn. It was Ended exactly if no line of the lane was left, and what was
-- entered was no work's.
abbrev pub Advanced : Script → List File → TableId → SeenTurn → SeenTurn → Step → Type 0
Advanced script inodes cells old new More = TurnHasEntered script 0 old new
Advanced script inodes cells old new (step.Work work) = HasGiven script inodes cells old new work
Advanced script inodes cells old new Ended = (new ≡ old) × LaneHasEnded script new

-- the numbers of a lane after a step, where `ended` of its lines have then ended
abbrev pub after_step : {E : Type 0} → LaneNumbers → ℕ → Result Step E → LaneNumbers
after_step numbers ended (Ok More) =
    record numbers { entered = numbers.entered + 1; ended = ended; out = None }
after_step numbers ended (Ok (step.Work work)) =
    record numbers { ended = ended; out = Some work.line }
after_step numbers ended step = record numbers { ended = ended }

-- the numbers of a lane after its work came back, where `ended` of its lines have then ended
abbrev pub after_finish : {E : Type 0} → LaneNumbers → ℕ → Result Step E → LaneNumbers
after_finish numbers ended (Ok step) = record {
  entered = numbers.entered + 1;
  decided = numbers.decided + 1;
  ended = ended;
  out = None;
}
after_finish numbers ended (Err left) = record numbers { ended = ended }
