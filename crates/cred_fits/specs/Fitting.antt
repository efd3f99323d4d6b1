-- The entries of a script's journals fit it.
use Rattle.std.specs.Prelude.{◌≡◌, ℕ, ◌*◌, ◌≤◌, List, length, All, Ok}
use Rattle.cred_ids.specs.Limits.{LINE_LIMIT}
use Rattle.cred_event.specs.declared.entry.Entry.{Entry}
use Rattle.cred_event.specs.declared.event.Event.{Event}
use Rattle.cred_model.specs.Script.{Script}
use Rattle.cred_model.specs.State.{State}
use Rattle.cred_model.specs.Step.{step}
use Rattle.cred_model.specs.Journal.{SoFar}
use Rattle.cred_grammar.specs.Grammar.{script_of}
use Rattle.cred_report.specs.Text.{text}
use Rattle.cred_reader.specs.Fits.{IsNumber, FitsEvent, IsOf, Fits}
use Rattle.cred_answers.specs.Rows.{CanAnswer}

-- In every state each event is given one of the answers of its row.
abbrev pub AnswersAreOfTheirRows : Type 0
AnswersAreOfTheirRows =
    (script : Script) (s : State) (line : ℕ) (event : Event)
    → CanAnswer event (step script s line event).0

-- What is true of an entry's line and event: their numbers are in range, each word is spelled as
-- the grammar asks, and the files and the namespaces are the script's.
pub record EventFits (script : Script) (entry : Entry) : Type 0 where
  pub line : IsNumber entry.line
  pub event : FitsEvent entry.event
  pub names : IsOf script entry.event

-- This holds of each entry of a journal so far of a script that is read from a text, if it has no
-- more lines than a script may have.
abbrev pub EventsFit : Type 0
EventsFit =
    (bytes : List ℕ) (script : Script) (journal : List Entry)
    → script_of bytes ≡ Ok script → length script.lines ≤ LINE_LIMIT → SoFar script journal
    → All (EventFits script) journal

-- Each entry of such a journal fits the script.
abbrev pub EntriesFit : Type 0
EntriesFit =
    (bytes : List ℕ) (script : Script) (journal : List Entry)
    → script_of bytes ≡ Ok script → length script.lines ≤ LINE_LIMIT → SoFar script journal
    → All (Fits script) journal

-- Each of the entries fits the script, and no other list of such entries has their text.
pub record IsOneList (script : Script) (entries : List Entry) : Type 0 where
  pub fits : All (Fits script) entries
  pub only : (other : List Entry) → All (Fits script) other
      → text script other ≡ text script entries → other ≡ entries

-- Such a journal is the one list of fitting entries that has its text.
abbrev pub OneFittingList : Type 0
OneFittingList =
    (bytes : List ℕ) (script : Script) (journal : List Entry)
    → script_of bytes ≡ Ok script → length script.lines ≤ LINE_LIMIT → SoFar script journal
    → IsOneList script journal

-- how many entries the journal of a script may have for each of its lines
abbrev pub MOST_A_LINE : ℕ
MOST_A_LINE = 150

-- A journal so far has no more than MOST_A_LINE entries for each line of its script.
abbrev pub JournalsAreShort : Type 0
JournalsAreShort =
    (script : Script) (journal : List Entry)
    → SoFar script journal → length journal ≤ MOST_A_LINE * length script.lines
