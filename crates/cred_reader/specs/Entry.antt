-- The entry that words are the text of.
use Rattle.std.specs.Prelude.{ℕ, ◌+◌, ◌-◌, Bool, List, [], ◌∷◌, length, take, drop, position, codes}
use Rattle.std.specs.Prelude.{Result, Ok, Err, ok_or}
use Rattle.std.specs.Str.{bytes_eq}
use Rattle.cred_event.specs.declared.entry.Entry.{Entry}
use Rattle.cred_model.specs.Script.{NamedFile}
use Rattle.cred_spelling.specs.declared.reason.Reason.{Reason}
use Rattle.cred_spelling.specs.declared.reason.Reason.TheVariants.{Word, Count}
use Rattle.cred_spelling.specs.Spellings.{number_of}
use Rattle.cred_spelling.specs.Words.{word_of}
use Rattle.cred_reader.specs.Events.{read_event}
use Rattle.cred_reader.specs.Answers.{told_by, read_answer}
use Rattle.cred_ids.specs.Tests.{◌>>=◌}

-- what stands between an event and its answer
abbrev pub is_arrow : List ℕ → Bool
is_arrow word = bytes_eq word (codes "->")

-- the number of a line, an event, the arrow and an answer
unfoldable pub read_entry : List NamedFile → List (List ℕ) → Result Entry Reason
read_entry files [] = Err Count
read_entry files (number ∷ words) = do
  line ← word_of number_of number
  place ← ok_or (position is_arrow words) Word
  event ← read_event files (take place words)
  answer ← read_answer (told_by event) (drop (place + 1) words)
  Ok (record { line = line; event = event; answer = answer })

-- a line without its last byte, which is LF in the text of an entry
abbrev pub body_of : List ℕ → List ℕ
body_of line = take (length line - 1) line
