-- The changes of a credential that a line names: their arguments.
use Rattle.std.specs.Prelude.{ℕ, List, [], ◌∷◌, Result, Ok, Err}
use Rattle.cred_event.specs.declared.event.Change.{Change}
use Rattle.cred_event.specs.declared.event.Change.TheVariants.{SetFs, Adjust, Exec, Access}
use Rattle.cred_record.specs.declared.adj_call.AdjCall.TheVariants as call
use Rattle.cred_model.specs.Script.{NamedFile}
use Rattle.cred_spelling.specs.declared.names.ChangeName.{ChangeName}
use Rattle.cred_spelling.specs.declared.names.ChangeName.TheVariants as name
use Rattle.cred_spelling.specs.declared.reason.Reason.{Reason}
use Rattle.cred_spelling.specs.declared.reason.Reason.TheVariants.{Count}
use Rattle.cred_spelling.specs.Words.{bare, one_of, three_of}
use Rattle.cred_spelling.specs.Spellings.{number_of, arg_of, cap_of, set_of}
use Rattle.cred_grammar.specs.Files.{file_at}
use Rattle.cred_ids.specs.Tests.{◌>>=◌}

-- `exec NAME`
unfoldable pub exec_of : List NamedFile → List (List ℕ) → Result Change Reason
exec_of files (word ∷ []) = file_at files word >>= λ file. Ok (Exec file)
exec_of files words = Err Count

-- A change, by its name. The sets of `capset` are the permitted, the inheritable and the effective.
unfoldable pub change_of : List NamedFile → ChangeName → List (List ℕ) → Result Change Reason
change_of files (name.SetFs kind) words = do
  id ← one_of arg_of words
  Ok (SetFs kind id)
change_of files name.Capset words = do
  set ← three_of set_of set_of set_of words
  Ok (Adjust (call.Capset set.0 set.1 set.2))
change_of files name.BoundDrop words = do
  cap ← one_of cap_of words
  Ok (Adjust (call.BoundDrop cap))
change_of files name.AmbRaise words = do
  cap ← one_of cap_of words
  Ok (Adjust (call.AmbRaise cap))
change_of files name.AmbLower words = do
  cap ← one_of cap_of words
  Ok (Adjust (call.AmbLower cap))
change_of files name.AmbClear words = bare words (Adjust call.AmbClear)
change_of files name.Bits words = do
  number ← one_of number_of words
  Ok (Adjust (call.Bits number))
change_of files name.KeepCaps words = do
  number ← one_of number_of words
  Ok (Adjust (call.KeepCaps number))
change_of files name.NoNewPrivs words = do
  number ← one_of number_of words
  Ok (Adjust (call.NoNewPrivs number))
change_of files name.Exec words = exec_of files words
change_of files name.Access words = bare words Access
