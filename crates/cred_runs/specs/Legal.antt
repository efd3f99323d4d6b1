-- What is written of a run in which the lanes are threads.
use Rattle.std.specs.Prelude.{List, ℕ}
use Rattle.std.specs.declared.option.Option.{Option}
use Rattle.std.specs.Io.KnownBytes.{Appends}
use Rattle.cred_io.specs.Ends.{AppendsPrefix}
use Rattle.cred_event.specs.declared.entry.Entry.{Entry}
use Rattle.cred_model.specs.Script.{Script}
use Rattle.cred_model.specs.Journal.{IsLegal}
use Rattle.cred_report.specs.Text.{text}

-- the text of one legal journal of the script was written, and nothing else
abbrev pub AppendsLegal : Script → Option (List ℕ) → Option (List ℕ) → Type 0
AppendsLegal script before after =
    (journal : List Entry) × IsLegal script journal × Appends before after (text script journal)

-- a prefix of the text of one legal journal of the script was written, and nothing else
abbrev pub BeginsLegalText : Script → Option (List ℕ) → Option (List ℕ) → Type 0
BeginsLegalText script before after =
    (journal : List Entry) × IsLegal script journal
    × AppendsPrefix before after (text script journal)
