-- The calls on a file that a line names: their arguments.
use Rattle.std.specs.Prelude.{ℕ, List, [], ◌∷◌, Some, None, Result, Ok, Err}
use Rattle.cred_event.specs.declared.content.FileCall.{FileCall}
use Rattle.cred_event.specs.declared.content.FileCall.TheVariants.{Chown, Chmod, SetAttr, Stat}
use Rattle.cred_model.specs.Script.{NamedFile}
use Rattle.cred_spelling.specs.declared.names.FileCallName.{FileCallName}
use Rattle.cred_spelling.specs.declared.names.FileCallName.TheVariants as name
use Rattle.cred_spelling.specs.declared.reason.Reason.{Reason}
use Rattle.cred_spelling.specs.declared.reason.Reason.TheVariants.{Count}
use Rattle.cred_spelling.specs.Spellings.{arg_of, bytes_of, mode_of}
use Rattle.cred_spelling.specs.Words.{word_of, two_of}
use Rattle.cred_grammar.specs.Files.{file_at}
use Rattle.cred_ids.specs.Tests.{◌>>=◌}

-- `chown NAME ARG ARG`: the owner and the group
unfoldable pub chown_of : List NamedFile → List (List ℕ) → Result FileCall Reason
chown_of files (name ∷ owner ∷ group ∷ []) = do
  file ← file_at files name
  id ← two_of arg_of arg_of (owner ∷ group ∷ [])
  Ok (Chown file id.0 id.1)
chown_of files words = Err Count

-- `chmod NAME MODE`
unfoldable pub chmod_of : List NamedFile → List (List ℕ) → Result FileCall Reason
chmod_of files (name ∷ bits ∷ []) = do
  file ← file_at files name
  mode ← word_of mode_of bits
  Ok (Chmod file mode)
chmod_of files words = Err Count

-- `setattr NAME HEX`
unfoldable pub set_attr_of : List NamedFile → List (List ℕ) → Result FileCall Reason
set_attr_of files (name ∷ digits ∷ []) = do
  file ← file_at files name
  attr ← word_of bytes_of digits
  Ok (SetAttr file (Some attr))
set_attr_of files words = Err Count

-- one file
unfoldable pub file_alone : List NamedFile → List (List ℕ) → Result ℕ Reason
file_alone files (name ∷ []) = file_at files name
file_alone files words = Err Count

-- a call on a file, by its name
unfoldable pub file_call_of : List NamedFile → FileCallName → List (List ℕ) → Result FileCall Reason
file_call_of files name.Chown words = chown_of files words
file_call_of files name.Chmod words = chmod_of files words
file_call_of files name.SetAttr words = set_attr_of files words
file_call_of files name.ClearAttr words = do
  file ← file_alone files words
  Ok (SetAttr file None)
file_call_of files name.Stat words = do
  file ← file_alone files words
  Ok (Stat file)
