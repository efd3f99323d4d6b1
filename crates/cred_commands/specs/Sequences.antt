-- What is written of a run in which all lines run whole, in the script's order.
use Rattle.std.specs.Prelude.{◌≡◌, ℕ, List, ◌++◌}
use Rattle.std.specs.declared.option.Option.{Option}
use Rattle.std.specs.Io.KnownBytes.{Appends}
use Rattle.cred_io.specs.Ends.{AppendsPrefix}
use Rattle.cred_event.specs.declared.entry.Entry.{Entry}
use Rattle.cred_model.specs.Script.{Script}
use Rattle.cred_model.specs.Journal.{IsSequence}
use Rattle.cred_report.specs.Text.{text}

-- the text of the script's sequence was written, and nothing else
abbrev pub AppendsSequence : Script → Option (List ℕ) → Option (List ℕ) → Type 0
AppendsSequence script before after =
    (journal : List Entry) × IsSequence script journal × Appends before after (text script journal)

-- a prefix of the text of the script's sequence was written, and nothing else
abbrev pub WritesSequenceStart : Script → Option (List ℕ) → Option (List ℕ) → Type 0
WritesSequenceStart script before after =
    (journal : List Entry) × IsSequence script journal
    × AppendsPrefix before after (text script journal)

-- The first bytes of this text were written, and the others are kept.
pub record HandsOver (had has : List ℕ) (before after : Option (List ℕ)) : Type 0 where
  pub those : List ℕ
  pub are : had ≡ those ++ has
  pub written : Appends before after those
