-- What a command that reads an input leaves at its source and its sink, by the status that it
-- answers.
use Rattle.std.specs.Prelude.{◌≡◌, ◌≢◌, ◌⊎◌, ◌+◌, ℕ, Bool, true, List, Some}
use Rattle.std.specs.declared.option.Option.{Option}
use Rattle.cred_ids.specs.Limits.{BYTE_LIMIT}
use Rattle.cred_io.specs.Causes.{CountsFaults}
use Rattle.cred_io.specs.Ends.{ReadsUpTo}
use Rattle.cred_event.specs.declared.entry.Entry.{Entry}
use Rattle.cred_model.specs.Script.{Script}
use Rattle.cred_output.specs.declared.status.Status.{Status}
use Rattle.cred_output.specs.declared.status.Status.TheVariants as status
use Rattle.cred_output.specs.Cuts.{Cuts}
use Rattle.cred_output.specs.Ends.{BeginsOne, HasTooManyLines, IsWhole, IsWithinLimits}
use Rattle.cred_output.specs.Ends.{Reads, ReadsTooMuch, ReadsWithin, Refuses, Reports, Suits}

-- The source's count of faults rises for a ReadFault alone, which comes before the limit of bytes
-- is passed. One byte above the limit is read at most.
pub record IsReading
    (limit : ℕ) (answer : Status) (before after : Option (List ℕ)) (faults now : ℕ)
    : Type 0 where
  pub cause : CountsFaults (answer ≡ status.ReadFault) faults now
  pub fault : answer ≡ status.ReadFault → ReadsUpTo limit before after
  pub no_more : ReadsUpTo (limit + 1) before after

-- A whole text is flushed. The sink's count of faults rises for a WriteFault alone.
pub record IsWriting (answer : Status) (is_flushed : Bool) (faults now : ℕ) : Type 0 where
  pub flushed : IsWhole answer → is_flushed ≡ true
  pub cause : CountsFaults (answer ≡ status.WriteFault) faults now

-- What a run of the bytes of a script leaves at its sink, where one of these journals of the script
-- may come about.
pub record RunsBytes
    (These : Script → List Entry → Type 0) (bytes : List ℕ) (answer : Status)
    (written now : Option (List ℕ)) (untouched : Type 0)
    : Type 0 where
  pub done : answer ≡ status.Done → Reports These written now bytes
  pub bad : answer ≡ status.Bad → Refuses written now bytes
  pub too_large : answer ≡ status.TooLarge → HasTooManyLines bytes × untouched
  pub no_read_fault : answer ≢ status.ReadFault
  pub suits : Suits bytes answer
  pub prefix : untouched ⊎ (IsWithinLimits bytes × BeginsOne These written now bytes)
  pub cut : untouched ⊎ (IsWithinLimits bytes × Cuts written now bytes)

-- What a run of a script leaves, where one of these journals of it may come about: what was left at
-- the source was read, and is within the limits, wherever something was written.
pub record LeavesReport
    (These : Script → List Entry → Type 0) (answer : Status)
    (before after : Option (List ℕ)) (written now : Option (List ℕ))
    : Type 0 where
  pub done : answer ≡ status.Done → Reads IsWithinLimits before after (Reports These written now)
  pub bad : answer ≡ status.Bad → Reads IsWithinLimits before after (Refuses written now)
  pub no_usage : answer ≢ status.Usage
  pub no_not_legal : answer ≢ status.NotLegal
  pub too_large : answer ≡ status.TooLarge → ReadsTooMuch BYTE_LIMIT HasTooManyLines before after
  pub write_fault : answer ≡ status.WriteFault → ReadsWithin IsWithinLimits before after
  pub suits : (input : List ℕ) → before ≡ Some input → Suits input answer
  pub prefix : (now ≡ written) ⊎ Reads IsWithinLimits before after (BeginsOne These written now)
  pub cut : (now ≡ written) ⊎ Reads IsWithinLimits before after (Cuts written now)
