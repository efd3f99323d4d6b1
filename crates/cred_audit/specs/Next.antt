-- Which entries come next, and what their texts say of their lane.
use Rattle.std.specs.Prelude.{◌≡◌, ℕ, List, ◌++◌, Some}
use Rattle.std.specs.declared.option.Option.{Option}
use Rattle.cred_event.specs.declared.entry.Entry.{Entry}
use Rattle.cred_model.specs.Script.{Script}
use Rattle.cred_model.specs.Journal.{lane_of, next}
use Rattle.cred_report.specs.Text.{entry_text}

-- The entry is of a line of the script, and the next one of that line's lane.
abbrev pub ComesNext : Script → List Entry → Entry → Type 0
ComesNext script journal entry =
    (lane : ℕ) × (lane_of script entry.line ≡ Some lane) × (next script journal lane ≡ Some entry)

-- Where the bytes begin with the text of an entry of a line, this is that line's lane.
abbrev pub IsLaneAt : Script → List ℕ → Option ℕ → Type 0
IsLaneAt script bytes found =
    (entry : Entry) (rest : List ℕ) (lane : ℕ) → lane_of script entry.line ≡ Some lane
    → bytes ≡ entry_text script entry ++ rest → found ≡ Some lane
