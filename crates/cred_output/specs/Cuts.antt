-- What is written of the journal of a run in threads, where it isn't written whole.
use Rattle.std.specs.Prelude.{◌≡◌, ◌<◌, ◌⊎◌, ℕ, List, [], ◌++◌, length, take, Some}
use Rattle.std.specs.Result.{MatchResult}
use Rattle.std.specs.declared.option.Option.{Option}
use Rattle.std.specs.Io.KnownBytes.{Appends}
use Rattle.cred_io.specs.Ends.{AppendsPrefix}
use Rattle.cred_event.specs.declared.entry.Entry.{Entry}
use Rattle.cred_model.specs.Script.{Script}
use Rattle.cred_model.specs.Journal.{SoFar, next}
use Rattle.cred_grammar.specs.Grammar.{script_of}
use Rattle.cred_report.specs.Text.{entry_text, text}
use Rattle.cred_output.specs.Texts.{bad_text}

-- The bytes begin the text of the next entry of one of the lanes after a journal, the setup's or
-- another's, and don't end it.
pub record BeginsNext (script : Script) (journal : List Entry) (bytes : List ℕ) : Type 0 where
  pub lane : ℕ
  pub entry : Entry
  pub next_is : next script journal lane ≡ Some entry
  pub count : ℕ
  pub below : count < length (entry_text script entry)
  pub bytes_are : bytes ≡ take count (entry_text script entry)

-- The bytes are the text of a journal of the script that is one so far, and then nothing, or what
-- begins the next entry of one of the lanes.
pub record IsCut (script : Script) (bytes : List ℕ) : Type 0 where
  pub journal : List Entry
  pub so_far : SoFar script journal
  pub rest : List ℕ
  pub bytes_are : bytes ≡ text script journal ++ rest
  pub rest_is : (rest ≡ []) ⊎ BeginsNext script journal rest

-- such bytes were written, and nothing else
abbrev pub AppendsCut : Option (List ℕ) → Option (List ℕ) → Script → Type 0
AppendsCut before after script = (bytes : List ℕ) × IsCut script bytes × Appends before after bytes

-- Of a script such bytes were written, and of any other input a prefix of the line that it gets.
abbrev pub Cuts : Option (List ℕ) → Option (List ℕ) → List ℕ → Type 0
Cuts before after input =
    MatchResult (script_of input) (AppendsCut before after)
    (λ bad. AppendsPrefix before after (bad_text bad))
