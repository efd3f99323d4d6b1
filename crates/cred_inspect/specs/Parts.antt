-- The parts of an input of `audit`: a script, a line that is exactly `report`, and a report.
use Rattle.std.specs.Prelude.{ℕ, Bool, List, [], ◌∷◌, ◌++◌, length, drop, map, codes, Some, None}
use Rattle.std.specs.Prelude.{if◌then◌else◌}
use Rattle.std.specs.declared.option.Option.{Option}
use Rattle.std.specs.List.{concat, list_any, before_first}
use Rattle.std.specs.Option.{option_map_or}
use Rattle.std.specs.Str.{bytes_eq}
use Rattle.cred_spelling.specs.Lines.{lines_of}

-- the line that ends the script
abbrev pub REPORT : List ℕ
REPORT = codes "report"

abbrev pub is_report : List ℕ → Bool
is_report line = bytes_eq line REPORT

-- a line with its LF
abbrev pub with_line_feed : List ℕ → List ℕ
with_line_feed line = line ++ 10 ∷ []

-- the bytes before the first line that is exactly `report`
abbrev pub before_report : List ℕ → List ℕ
before_report input = concat (map with_line_feed (before_first is_report (lines_of input)))

-- the bytes after that line and its LF; none where it ends the input without one
abbrev pub after_report : List ℕ → List ℕ
after_report input = drop (length (before_report input ++ with_line_feed REPORT)) input

-- what is to be a script, and what is to be its report; none where no line is `report`
abbrev pub input_parts : List ℕ → Option (List ℕ × List ℕ)
input_parts input =
    if list_any is_report (lines_of input)
    then Some (before_report input, after_report input)
    else None

-- what is to be a script: where no line is `report`, the whole input
abbrev pub script_part : List ℕ → List ℕ
script_part input = option_map_or (λ parts. parts.0) (input_parts input) input
