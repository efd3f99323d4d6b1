-- A line of a script.
use Rattle.std.specs.Prelude.{ℕ, ◌-◌, ◌==◌, None, slice_get, if◌then◌else◌}
use Rattle.std.specs.declared.option.Option.{Option}
use Rattle.std.specs.Borrow.{Bor}
use Rattle.cred_event.specs.declared.content.Content.{Content}
use Rattle.cred_model.specs.Script.{Script, Line}

-- the line of this number
abbrev pub line_at : Script → ℕ → Option Line
line_at given number = if number == 0 then None else slice_get given.lines (number - 1)

-- the line that a lane and a content make
abbrev pub line_seen : ℕ × Bor Content → Line
line_seen found = record { lane = found.0; content = found.1.now }
