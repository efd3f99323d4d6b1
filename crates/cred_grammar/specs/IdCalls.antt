-- The id calls of a line: their arguments.
use Rattle.std.specs.Prelude.{ℕ, List, [], ◌∷◌, Result, Ok}
use Rattle.cred_record.specs.declared.id_call.IdCall.{IdCall}
use Rattle.cred_record.specs.declared.id_call.IdCall.TheVariants as call
use Rattle.cred_spelling.specs.declared.names.IdName.{IdName}
use Rattle.cred_spelling.specs.declared.names.IdName.TheVariants as name
use Rattle.cred_spelling.specs.declared.reason.Reason.{Reason}
use Rattle.cred_spelling.specs.Words.{word_of, one_of, two_of, three_of}
use Rattle.cred_spelling.specs.Spellings.{arg_of, id_of}
use Rattle.cred_ids.specs.Tests.{◌>>=◌}

-- any number of ids
abbrev pub ids : List (List ℕ) → Result (List ℕ) Reason
ids [] = Ok []
ids (word ∷ words) = do
  id ← word_of id_of word
  more ← ids words
  Ok (id ∷ more)

-- an id call, by its name
unfoldable pub id_call_of : IdName → List (List ℕ) → Result IdCall Reason
id_call_of name.SetUid words = do
  id ← one_of arg_of words
  Ok (call.SetUid id)
id_call_of name.SetEuid words = do
  id ← one_of arg_of words
  Ok (call.SetEuid id)
id_call_of name.SetReuid words = do
  id ← two_of arg_of arg_of words
  Ok (call.SetReuid id.0 id.1)
id_call_of name.SetResuid words = do
  id ← three_of arg_of arg_of arg_of words
  Ok (call.SetResuid id.0 id.1 id.2)
id_call_of name.SetGid words = do
  id ← one_of arg_of words
  Ok (call.SetGid id)
id_call_of name.SetEgid words = do
  id ← one_of arg_of words
  Ok (call.SetEgid id)
id_call_of name.SetRegid words = do
  id ← two_of arg_of arg_of words
  Ok (call.SetRegid id.0 id.1)
id_call_of name.SetResgid words = do
  id ← three_of arg_of arg_of arg_of words
  Ok (call.SetResgid id.0 id.1 id.2)
id_call_of name.SetGroups words = do
  groups ← ids words
  Ok (call.SetGroups groups)
