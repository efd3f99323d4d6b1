-- The questions of a line, and what is wanted of a file.
use Rattle.std.specs.Prelude.{ℕ, List, [], ◌∷◌, Result, Ok, Err, ok_or}
use Rattle.cred_record.specs.declared.want.Want.{Want}
use Rattle.cred_event.specs.declared.event.Query.{Query}
use Rattle.cred_event.specs.declared.event.Query.TheVariants as query
use Rattle.cred_model.specs.Script.{NamedFile}
use Rattle.cred_spelling.specs.declared.names.QueryName.{QueryName}
use Rattle.cred_spelling.specs.declared.names.QueryName.TheVariants as name
use Rattle.cred_spelling.specs.declared.reason.Reason.{Reason}
use Rattle.cred_spelling.specs.declared.reason.Reason.TheVariants.{Word, Count}
use Rattle.cred_spelling.specs.Names as names
use Rattle.cred_spelling.specs.Spellings.{cap_of, want_of}
use Rattle.cred_spelling.specs.Words.{word_of, bare, one_of}
use Rattle.cred_grammar.specs.Files.{file_at}
use Rattle.cred_ids.specs.Tests.{◌>>=◌}

-- `NAME WANT`: a file, by its place, and what is wanted of it
unfoldable pub file_and_want : List NamedFile → List (List ℕ) → Result (ℕ × Want) Reason
file_and_want files (name ∷ want ∷ []) = do
  file ← file_at files name
  wanted ← word_of want_of want
  Ok (file, wanted)
file_and_want files words = Err Count

-- a question, by its name
unfoldable pub query_of : List NamedFile → QueryName → List (List ℕ) → Result Query Reason
query_of files name.Ids words = bare words query.Ids
query_of files name.Caps words = bare words query.Caps
query_of files name.Groups words = bare words query.Groups
query_of files name.Bits words = bare words query.Bits
query_of files name.Capable words = do
  cap ← one_of cap_of words
  Ok (query.Capable cap)
query_of files name.Bset words = do
  cap ← one_of cap_of words
  Ok (query.Bset cap)
query_of files name.AmbIs words = do
  cap ← one_of cap_of words
  Ok (query.AmbIs cap)
query_of files name.Check words = do
  asked ← file_and_want files words
  Ok (query.Check asked.0 asked.1)

-- a question, by the word that names it
unfoldable pub query_named : List NamedFile → List ℕ → List (List ℕ) → Result Query Reason
query_named files word words = do
  asked ← ok_or (names.query_name word) Word
  query_of files asked words
