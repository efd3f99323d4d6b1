-- What sources and sinks in memory hold, and which of their calls fail.
use Rattle.std.specs.Prelude.{ℕ, Bool, List, Contains, ◌-◌, ◌^◌}
use Rattle.cred_io.specs.Causes.{next_count}

-- the bytes not yet read, how many of them a read moves at most, how many reads there were, which
-- reads fail, and how many have failed
pub record SourceState : Type 0 where
  pub left : List ℕ
  pub piece : ℕ
  pub calls : ℕ
  pub failing : List ℕ
  pub faults : ℕ

-- the bytes written, whether they are flushed, how many a write takes at most, how many writes
-- there were, which writes fail, and how many have failed
pub record SinkState : Type 0 where
  pub bytes : List ℕ
  pub flushed : Bool
  pub piece : ℕ
  pub calls : ℕ
  pub failing : List ℕ
  pub faults : ℕ

-- the bytes written, and whether they are flushed
pub record SureState : Type 0 where
  pub bytes : List ℕ
  pub flushed : Bool

-- the piece of an end that moves as much at a call as it is asked to
abbrev pub WHOLE : ℕ
WHOLE = 2 ^ 64 - 1

-- after `calls` calls, the next is one of those that fail
abbrev pub FailsNext : List ℕ → ℕ → Type 0
FailsNext failing calls = Contains failing (next_count calls)
