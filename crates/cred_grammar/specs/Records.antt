-- A word that is a record of capset(2), in hexadecimal digits.
use Rattle.std.specs.Prelude.{ℕ, ◌==◌, ◌||◌, List, Some, None, if◌then◌else◌}
use Rattle.std.specs.declared.option.Option.{Option}
use Rattle.std.specs.Option.{option_and_then}
use Rattle.cred_spelling.specs.Spellings.{bytes_of}
use Rattle.cred_capdata.specs.declared.data.CapData.{CapData}
use Rattle.cred_capdata.specs.Record.{data_of}

-- A task sets its own sets alone: the record is about 0, which is the caller, or about the task.
abbrev pub own_data : ℕ → CapData → Option CapData
own_data task d = if (d.target == 0) || (d.target == task) then Some d else None

-- the record of the task that a word spells
abbrev pub record_of : ℕ → List ℕ → Option CapData
record_of task word =
    option_and_then (λ bytes. option_and_then (own_data task) (data_of bytes)) (bytes_of word)
