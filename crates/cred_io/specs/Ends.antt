-- What a run of reads took from a source and a run of writes left in a sink, where these report it.
use Rattle.std.specs.Prelude.{ℕ, ◌<◌, ◌≤◌, List, length, take}
use Rattle.std.specs.declared.option.Option.{Option}
use Rattle.std.specs.Io.KnownBytes.{Consumes, Appends, IsAtEnd}

-- these are all the bytes that were left, and the source is at its end
pub record ReadsAll (before after : Option (List ℕ)) (bytes : List ℕ) : Type 0 where
  pub taken : Consumes before after bytes
  pub ended : IsAtEnd after

-- more bytes than the limit were taken
pub record ReadsMoreThan (limit : ℕ) (before after : Option (List ℕ)) : Type 0 where
  pub bytes : List ℕ
  pub taken : Consumes before after bytes
  pub above : limit < length bytes

-- no more bytes than the limit were taken
pub record ReadsUpTo (limit : ℕ) (before after : Option (List ℕ)) : Type 0 where
  pub bytes : List ℕ
  pub taken : Consumes before after bytes
  pub within : length bytes ≤ limit

-- a prefix of the text was written, and nothing else
pub record AppendsPrefix (before after : Option (List ℕ)) (text : List ℕ) : Type 0 where
  pub count : ℕ
  pub written : Appends before after (take count text)
