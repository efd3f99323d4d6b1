-- What a task does on a line of its own. Each definition takes the words that stand after the one
-- that names the call.
use Rattle.std.specs.Prelude.{ℕ, List, [], ◌∷◌, Result, Ok, Err, ok_or}
use Rattle.cred_event.specs.declared.event.Event.TheVariants.{CloseFile, Spawn, Fork, Exit}
use Rattle.cred_event.specs.declared.event.Event.TheVariants.{Dumpable, Dumped, Raw}
use Rattle.cred_event.specs.declared.event.Change.TheVariants.{Adjust}
use Rattle.cred_record.specs.declared.adj_call.AdjCall.TheVariants.{Capset}
use Rattle.cred_event.specs.declared.content.Content.{Content}
use Rattle.cred_event.specs.declared.content.Content.TheVariants.{One, Id, Question, Open, Fcap}
use Rattle.cred_event.specs.declared.content.Content.TheVariants.{Signal, Ptrace, Change, Access}
use Rattle.cred_event.specs.declared.content.Content.TheVariants.{OnFile}
use Rattle.cred_model.specs.Script.{NamedFile}
use Rattle.cred_spelling.specs.declared.names.CallName.{CallName}
use Rattle.cred_spelling.specs.declared.names.CallName.TheVariants as call
use Rattle.cred_spelling.specs.declared.names.OtherName.{OtherName}
use Rattle.cred_spelling.specs.declared.names.OtherName.TheVariants as name
use Rattle.cred_spelling.specs.declared.reason.Reason.{Reason}
use Rattle.cred_spelling.specs.declared.reason.Reason.TheVariants.{Word, Count}
use Rattle.cred_spelling.specs.Names as names
use Rattle.cred_spelling.specs.Spellings.{number_of, cap_of, spelled_task, spelled_process}
use Rattle.cred_spelling.specs.Spellings.{descriptor_of}
use Rattle.cred_spelling.specs.Words.{word_of, bare, one_of, two_of}
use Rattle.cred_grammar.specs.IdCalls.{id_call_of}
use Rattle.cred_grammar.specs.Changes.{change_of}
use Rattle.cred_grammar.specs.Questions.{file_and_want, query_of}
use Rattle.cred_grammar.specs.Modes.{look_mode}
use Rattle.cred_grammar.specs.FileCalls.{file_call_of}
use Rattle.cred_grammar.specs.Records.{record_of}
use Rattle.cred_ids.specs.Tests.{◌>>=◌}

-- `open NAME WANT F`
unfoldable pub open_call : List NamedFile → ℕ → List (List ℕ) → Result Content Reason
open_call files task (name ∷ want ∷ descriptor ∷ []) = do
  asked ← file_and_want files (name ∷ want ∷ [])
  fd ← word_of descriptor_of descriptor
  Ok (Open task asked.0 asked.1 fd)
open_call files task words = Err Count

-- `capsetraw HEX`: the sets of the record
unfoldable pub capset_raw_of : ℕ → List (List ℕ) → Result Content Reason
capset_raw_of task words = do
  sets ← one_of (record_of task) words
  Ok (Change task (Adjust (Capset sets.perm sets.inh sets.eff)))

-- `raw CALL`: an id call of the one thread
unfoldable pub raw_of : ℕ → List (List ℕ) → Result Content Reason
raw_of task (called ∷ words) = do
  kind ← ok_or (names.id_name called) Word
  made ← id_call_of kind words
  Ok (One (Raw task made))
raw_of task words = Err Count

-- A call that is neither an id call, nor a change, nor a question, nor a call on a file, by its
-- name. `signal` has the task that is signalled, `spawn` the new thread, `fork` the child and its
-- process. `ptrace` has how the task asks, and then the task that it asks to look into.
unfoldable pub other_of : List NamedFile → ℕ → OtherName → List (List ℕ) → Result Content Reason
other_of files task name.Open words = open_call files task words
other_of files task name.Close words = do
  fd ← one_of descriptor_of words
  Ok (One (CloseFile fd))
other_of files task name.Fcap words = do
  word ← two_of descriptor_of cap_of words
  Ok (Fcap task word.0 word.1)
other_of files task name.Access words = do
  asked ← file_and_want files words
  Ok (Access task asked.0 asked.1)
other_of files task name.Signal words = do
  to ← one_of spelled_task words
  Ok (Signal task to)
other_of files task name.Spawn words = do
  child ← one_of spelled_task words
  Ok (One (Spawn task child))
other_of files task name.Fork words = do
  word ← two_of spelled_task spelled_process words
  Ok (One (Fork task word.0 word.1))
other_of files task name.Exit words = bare words (One (Exit task))
other_of files task name.Dumpable words = do
  value ← one_of number_of words
  Ok (One (Dumpable task value))
other_of files task name.Dumped words = bare words (One (Dumped task))
other_of files task name.Ptrace words = do
  word ← two_of look_mode spelled_task words
  Ok (Ptrace task word.1 word.0)
other_of files task name.CapsetRaw words = capset_raw_of task words
other_of files task name.Raw words = raw_of task words

-- what the task does, by its name
unfoldable pub call_of : List NamedFile → ℕ → CallName → List (List ℕ) → Result Content Reason
call_of files task (call.Id called) words = do
  made ← id_call_of called words
  Ok (Id task made)
call_of files task (call.Change changed) words = do
  made ← change_of files changed words
  Ok (Change task made)
call_of files task (call.Question asked) words = do
  question ← query_of files asked words
  Ok (Question task question)
call_of files task (call.Other called) words = other_of files task called words
call_of files task (call.File called) words = do
  made ← file_call_of files called words
  Ok (OnFile task made)

-- a call or a question of the task: the line names it after the task
unfoldable pub content_of : List NamedFile → ℕ → List (List ℕ) → Result Content Reason
content_of files task [] = Err Word
content_of files task (word ∷ words) = do
  called ← ok_or (names.call_name word) Word
  call_of files task called words
