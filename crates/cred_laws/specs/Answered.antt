-- The entries of a script's journals have the answers that the rules give.
use Rattle.std.specs.Prelude.{List}
use Rattle.cred_event.specs.declared.entry.Entry.{Entry}
use Rattle.cred_model.specs.Script.{Script}
use Rattle.cred_model.specs.Journal.{IsAnswered, IsInOrder, SoFar}

-- In a journal whose lines run whole and in order each entry has the answer that its event gets.
abbrev pub InOrderIsAnswered : Type 0
InOrderIsAnswered =
    (script : Script) (journal : List Entry) → IsInOrder script journal → IsAnswered script journal

-- The same of a journal whose lanes take turns.
abbrev pub SoFarIsAnswered : Type 0
SoFarIsAnswered =
    (script : Script) (journal : List Entry) → SoFar script journal → IsAnswered script journal
