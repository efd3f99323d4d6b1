-- The event that words are the text of.
use Rattle.std.specs.Prelude.{ℕ, List, [], ◌∷◌, codes, Result, Ok, Err, ok_or}
use Rattle.std.specs.declared.option.Option.{Option}
use Rattle.cred_event.specs.declared.event.Side.{Side}
use Rattle.cred_event.specs.declared.event.Side.TheVariants.{Subjective, Objective}
use Rattle.cred_record.specs.declared.id_call.IdCall.{IdCall}
use Rattle.cred_event.specs.declared.event.Change.{Change}
use Rattle.cred_event.specs.declared.event.Event.{Event}
use Rattle.cred_event.specs.declared.event.Event.TheVariants as event
use Rattle.cred_model.specs.Script.{NamedFile}
use Rattle.cred_model.specs.Course.{calling}
use Rattle.cred_spelling.specs.declared.names.FileCallName.{FileCallName}
use Rattle.cred_spelling.specs.declared.names.FileCallName.TheVariants as file_call
use Rattle.cred_spelling.specs.declared.reason.Reason.{Reason}
use Rattle.cred_spelling.specs.declared.reason.Reason.TheVariants.{Word, Count}
use Rattle.cred_spelling.specs.Names.{id_name, altered_name}
use Rattle.cred_spelling.specs.Spellings.{id_of, number_of, namespace_of, want_of}
use Rattle.cred_spelling.specs.Table.{named}
use Rattle.cred_spelling.specs.Words.{word_of, no_words, one_of, two_of, three_of, five_of}
use Rattle.cred_grammar.specs.Changes.{change_of}
use Rattle.cred_grammar.specs.FileCalls.{file_call_of}
use Rattle.cred_grammar.specs.Modes.{look_mode}
use Rattle.cred_grammar.specs.Files.{file_at}
use Rattle.cred_grammar.specs.Questions.{query_named}
use Rattle.cred_grammar.specs.IdCalls.{id_call_of}
use Rattle.cred_reader.specs.declared.names.EventWord.{EventWord}
use Rattle.cred_reader.specs.declared.names.EventWord.TheVariants as name
use Rattle.cred_reader.specs.declared.names.LabelEvent.{LabelEvent}
use Rattle.cred_reader.specs.declared.names.LabelEvent.TheVariants as by_label
use Rattle.cred_reader.specs.declared.names.TaskEvent.{TaskEvent}
use Rattle.cred_reader.specs.declared.names.TaskEvent.TheVariants as by_task
use Rattle.cred_reader.specs.Kinds.{task_word, process_word, label_word, fd_of}
use Rattle.cred_ids.specs.Tests.{◌>>=◌}

-- what an event's text begins with
unfoldable pub event_names : List (List ℕ × EventWord)
event_names =
    (codes "init", name.Task by_task.Init) ∷
    (codes "take", name.Label by_label.Take) ∷
    (codes "takereal", name.Label by_label.TakeReal) ∷
    (codes "takefile", name.Label by_label.TakeFile) ∷
    (codes "drop", name.Label by_label.Release) ∷
    (codes "ask", name.Label by_label.Ask) ∷
    (codes "signal", name.Task by_task.Signal) ∷
    (codes "prepare", name.Label by_label.Prepare) ∷
    (codes "change", name.Label by_label.Alter) ∷
    (codes "commit", name.Label by_label.Commit) ∷
    (codes "abort", name.Label by_label.Abort) ∷
    (codes "override", name.Task by_task.Override) ∷
    (codes "revert", name.Task by_task.Revert) ∷
    (codes "begin", name.Task by_task.Begin) ∷
    (codes "act", name.Act) ∷
    (codes "open", name.Label by_label.OpenFile) ∷
    (codes "close", name.CloseFile) ∷
    (codes "spawn", name.Task by_task.Spawn) ∷
    (codes "fork", name.Task by_task.Fork) ∷
    (codes "exit", name.Task by_task.Exit) ∷
    (codes "sweep", name.Sweep) ∷
    (codes "dumpable", name.Task by_task.Dumpable) ∷
    (codes "dumped", name.Task by_task.Dumped) ∷
    (codes "ptrace", name.Ptrace) ∷
    (codes "chown", name.File file_call.Chown) ∷
    (codes "chmod", name.File file_call.Chmod) ∷
    (codes "setattr", name.File file_call.SetAttr) ∷
    (codes "clearattr", name.File file_call.ClearAttr) ∷
    (codes "stat", name.File file_call.Stat) ∷
    (codes "raw", name.Task by_task.Raw) ∷
    []

abbrev pub event_name : List ℕ → Option EventWord
event_name word = named event_names word

-- a new task, with its process, its ids and its namespace
unfoldable pub init_of : List (List ℕ) → Result Event Reason
init_of words = do
  word ← five_of task_word process_word id_of id_of namespace_of words
  Ok (event.Init word.0 word.1 word.2 word.3 word.4)

-- a label, and the task whose credential it takes
unfoldable pub read_take : Side → List (List ℕ) → Result Event Reason
read_take side words = do
  word ← two_of label_word task_word words
  Ok (event.Take word.0 word.1 side)

-- a label, and a question
unfoldable pub read_ask : List NamedFile → List (List ℕ) → Result Event Reason
read_ask files (hold ∷ asked ∷ words) = do
  label ← word_of label_word hold
  query ← query_named files asked words
  Ok (event.Ask label query)
read_ask files words = Err Count

-- two tasks, each with the label that holds its credential
unfoldable pub signal_of : List (List ℕ) → Result Event Reason
signal_of (from ∷ hold ∷ words) = do
  sender ← two_of task_word label_word (from ∷ hold ∷ [])
  other ← two_of task_word label_word words
  Ok (event.Signal sender.0 sender.1 other.0 other.1)
signal_of words = Err Count

-- a change, by the word that names it
unfoldable pub change_named : List NamedFile → List ℕ → List (List ℕ) → Result Change Reason
change_named files name words = do
  kind ← ok_or (altered_name name) Word
  change_of files kind words

-- a label, and a change
unfoldable pub read_alter : List NamedFile → List (List ℕ) → Result Event Reason
read_alter files (prepared ∷ changed ∷ words) = do
  label ← word_of label_word prepared
  change ← change_named files changed words
  Ok (event.Alter label change)
read_alter files words = Err Count

-- an id call, by the word that names it
unfoldable pub call_named : List ℕ → List (List ℕ) → Result IdCall Reason
call_named name words = ok_or (id_name name) Word >>= λ kind. id_call_of kind words

-- a task, and an id call
unfoldable pub read_begin : List (List ℕ) → Result Event Reason
read_begin (caller ∷ called ∷ words) = do
  task ← word_of task_word caller
  call ← call_named called words
  Ok (event.Begin task call)
read_begin words = Err Count

-- the same of a thread alone
unfoldable pub read_raw : List (List ℕ) → Result Event Reason
read_raw (caller ∷ called ∷ words) = do
  task ← word_of task_word caller
  call ← call_named called words
  Ok (event.Raw task call)
read_raw words = Err Count

-- a hold, and a call on a file
unfoldable pub file_event : List NamedFile → FileCallName → List (List ℕ) → Result Event Reason
file_event files named (hold ∷ words) = do
  label ← word_of label_word hold
  call ← file_call_of files named words
  Ok (calling label call)
file_event files named [] = Err Count

-- a hold, a file, what is wanted of it, and a descriptor
unfoldable pub read_open : List NamedFile → List (List ℕ) → Result Event Reason
read_open files (hold ∷ name ∷ words) = do
  label ← word_of label_word hold
  file ← file_at files name
  word ← two_of want_of fd_of words
  Ok (event.OpenFile label file word.0 word.1)
read_open files words = Err Count

-- an event whose text has a label after its first word, by its name
unfoldable pub label_event : List NamedFile → LabelEvent → List (List ℕ) → Result Event Reason
label_event files by_label.Take words = read_take Subjective words
label_event files by_label.TakeReal words = read_take Objective words
label_event files by_label.TakeFile words = do
  word ← two_of label_word fd_of words
  Ok (event.TakeFile word.0 word.1)
label_event files by_label.Release words =
    one_of label_word words >>= λ label. Ok (event.Release label)
label_event files by_label.Ask words = read_ask files words
label_event files by_label.Prepare words = do
  word ← three_of label_word task_word label_word words
  Ok (event.Prepare word.0 word.1 word.2)
label_event files by_label.Alter words = read_alter files words
label_event files by_label.Commit words =
    one_of label_word words >>= λ label. Ok (event.Commit label)
label_event files by_label.Abort words = one_of label_word words >>= λ label. Ok (event.Abort label)
label_event files by_label.OpenFile words = read_open files words

-- an event whose text has a task after its first word, by its name
unfoldable pub task_event : TaskEvent → List (List ℕ) → Result Event Reason
task_event by_task.Init words = init_of words
task_event by_task.Signal words = signal_of words
task_event by_task.Override words = do
  word ← two_of task_word label_word words
  Ok (event.Override word.0 word.1)
task_event by_task.Revert words = one_of task_word words >>= λ task. Ok (event.Revert task)
task_event by_task.Begin words = read_begin words
task_event by_task.Spawn words = do
  word ← two_of task_word task_word words
  Ok (event.Spawn word.0 word.1)
task_event by_task.Fork words = do
  word ← three_of task_word task_word process_word words
  Ok (event.Fork word.0 word.1 word.2)
task_event by_task.Exit words = one_of task_word words >>= λ task. Ok (event.Exit task)
task_event by_task.Dumpable words = do
  word ← two_of task_word number_of words
  Ok (event.Dumpable word.0 word.1)
task_event by_task.Dumped words = one_of task_word words >>= λ task. Ok (event.Dumped task)
task_event by_task.Raw words = read_raw words

-- how it is asked for, and then two tasks, each with the label that holds its credential
unfoldable pub ptrace_of : List (List ℕ) → Result Event Reason
ptrace_of (asked ∷ from ∷ hold ∷ words) = do
  mode ← word_of look_mode asked
  sender ← two_of task_word label_word (from ∷ hold ∷ [])
  other ← two_of task_word label_word words
  Ok (event.Ptrace sender.0 sender.1 other.0 other.1 mode)
ptrace_of words = Err Count

-- an event, by its name and the words after it
unfoldable pub event_named : List NamedFile → EventWord → List (List ℕ) → Result Event Reason
event_named files (name.Label kind) words = label_event files kind words
event_named files (name.Task kind) words = task_event kind words
event_named files name.Act words = one_of number_of words >>= λ broadcast. Ok (event.Act broadcast)
event_named files name.CloseFile words = one_of fd_of words >>= λ fd. Ok (event.CloseFile fd)
event_named files name.Sweep words = no_words words >>= λ end. Ok event.Sweep
event_named files name.Ptrace words = ptrace_of words
event_named files (name.File called) words = file_event files called words

-- the event that the words are the text of
unfoldable pub read_event : List NamedFile → List (List ℕ) → Result Event Reason
read_event files [] = Err Count
read_event files (word ∷ words) = do
  name ← ok_or (event_name word) Word
  event_named files name words
