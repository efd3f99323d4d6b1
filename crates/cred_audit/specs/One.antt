-- A text has one journal.
use Rattle.std.specs.Prelude.{◌≡◌, ◌≤◌, List, length}
use Rattle.cred_ids.specs.Limits.{LINE_LIMIT}
use Rattle.cred_event.specs.declared.entry.Entry.{Entry}
use Rattle.cred_model.specs.Script.{Script}
use Rattle.cred_model.specs.Journal.{SoFar}
use Rattle.cred_report.specs.Text.{text}

-- A journal so far of the script that has this one's text is this one.
abbrev pub IsOnly : Script → List Entry → Type 0
IsOnly script journal =
    (other : List Entry) → SoFar script other → text script other ≡ text script journal
    → other ≡ journal

-- This holds of every journal so far of a script that has no more lines than one may have.
abbrev pub OneJournal : Type 0
OneJournal =
    (script : Script) (journal : List Entry)
    → length script.lines ≤ LINE_LIMIT → SoFar script journal → IsOnly script journal
