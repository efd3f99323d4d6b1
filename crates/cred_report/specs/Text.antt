-- The text of a journal.
use Rattle.std.specs.Prelude.{ℕ, List, ◌++◌, codes, decimal}
use Rattle.std.specs.List.{flat_map}
use Rattle.cred_event.specs.declared.entry.Entry.{Entry}
use Rattle.cred_model.specs.Script.{Script}
use Rattle.cred_report.specs.Events.{event_text}
use Rattle.cred_report.specs.Answers.{answer_text}

-- the number of the line that made the event, the event and its answer, on a line of the report
abbrev pub entry_text : Script → Entry → List ℕ
entry_text script entry =
    decimal entry.line ++ codes " " ++ event_text script entry.event ++ codes " -> " ++
    answer_text entry.answer ++ codes "\n"

-- the entries one after another
abbrev pub text : Script → List Entry → List ℕ
text script journal = flat_map (entry_text script) journal
