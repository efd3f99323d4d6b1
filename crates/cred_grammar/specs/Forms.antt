-- The forms of a line: what its words are, and what it then declares or holds. Each definition
-- takes the words that stand after the one that names the form. How many there are is asked before
-- what they spell.
use Rattle.std.specs.Prelude.{ℕ, List, ◌∷◌, Some, Result, Ok, Err, ok_or}
use Rattle.cred_event.specs.declared.event.Event.{Event}
use Rattle.cred_event.specs.declared.event.Event.TheVariants.{Init, Take, TakeFile, Release, Ask}
use Rattle.cred_event.specs.declared.event.Event.TheVariants.{Prepare, Alter, Commit, Abort}
use Rattle.cred_event.specs.declared.event.Event.TheVariants.{Override, Revert, Begin, Act, Sweep}
use Rattle.cred_event.specs.declared.event.Side.{Side}
use Rattle.cred_event.specs.declared.event.Side.TheVariants.{Subjective, Objective}
use Rattle.cred_event.specs.declared.content.Content.TheVariants.{One}
use Rattle.cred_model.specs.Script.{NamedFile}
use Rattle.cred_spelling.specs.declared.names.Form.{Form}
use Rattle.cred_spelling.specs.declared.names.Form.TheVariants as form
use Rattle.cred_spelling.specs.declared.names.EventName.{EventName}
use Rattle.cred_spelling.specs.declared.names.EventName.TheVariants as name
use Rattle.cred_spelling.specs.declared.reason.Reason.{Reason}
use Rattle.cred_spelling.specs.declared.reason.Reason.TheVariants.{Word, Count}
use Rattle.cred_spelling.specs.Names as names
use Rattle.cred_spelling.specs.Spellings.{id_of, spelled_task, spelled_process, spelled_label}
use Rattle.cred_spelling.specs.Spellings.{descriptor_of}
use Rattle.cred_spelling.specs.Spellings.{line_number_of, lane_number_of, namespace_of}
use Rattle.cred_spelling.specs.Spellings.{new_namespace_of, parent_of}
use Rattle.cred_spelling.specs.Words.{word_of, no_words, one_of, two_of, three_of, five_of}
use Rattle.cred_grammar.specs.declared.forms.Parsed.{Parsed}
use Rattle.cred_grammar.specs.declared.forms.Parsed.TheVariants.{File, Namespace}
use Rattle.cred_grammar.specs.declared.forms.Parsed.TheVariants.{Starts, Lane, Holds}
use Rattle.cred_script.specs.Acting.{event_actor}
use Rattle.cred_grammar.specs.Files.{file_of}
use Rattle.cred_grammar.specs.IdCalls.{id_call_of}
use Rattle.cred_grammar.specs.Changes.{change_of}
use Rattle.cred_grammar.specs.Questions.{query_named}
use Rattle.cred_grammar.specs.Calls.{content_of}
use Rattle.cred_ids.specs.Tests.{◌>>=◌}

-- `take H T` and `takereal H T`
unfoldable pub take_of : Side → List (List ℕ) → Result Event Reason
take_of side words = do
  word ← two_of spelled_label spelled_task words
  Ok (Take word.0 word.1 side)

-- `takefile H F`
unfoldable pub take_file_of : List (List ℕ) → Result Event Reason
take_file_of words = do
  word ← two_of spelled_label descriptor_of words
  Ok (TakeFile word.0 word.1)

-- `ask H QUESTION`: the question is read before the label
unfoldable pub ask_of : List NamedFile → List (List ℕ) → Result Event Reason
ask_of files (hold ∷ asked ∷ words) = do
  question ← query_named files asked words
  label ← word_of spelled_label hold
  Ok (Ask label question)
ask_of files words = Err Count

-- `change H CHANGE`, `change H access`: the change is read before the label
unfoldable pub alter_of : List NamedFile → List (List ℕ) → Result Event Reason
alter_of files (prepared ∷ changed ∷ words) = do
  kind ← ok_or (names.altered_name changed) Word
  change ← change_of files kind words
  label ← word_of spelled_label prepared
  Ok (Alter label change)
alter_of files words = Err Count

-- `override T H`
unfoldable pub override_of : List (List ℕ) → Result Event Reason
override_of words = do
  word ← two_of spelled_task spelled_label words
  Ok (Override word.0 word.1)

-- `begin T CALL`: the call is read before the task
unfoldable pub begin_of : List (List ℕ) → Result Event Reason
begin_of (caller ∷ called ∷ words) = do
  kind ← ok_or (names.id_name called) Word
  made ← id_call_of kind words
  task ← word_of spelled_task caller
  Ok (Begin task made)
begin_of words = Err Count

-- An event, by its name. `prepare` has the new label, the task, and the hold that it is based on,
-- `act` the number of the line that began the broadcast.
unfoldable pub event_of : List NamedFile → EventName → List (List ℕ) → Result Event Reason
event_of files name.Take words = take_of Subjective words
event_of files name.TakeReal words = take_of Objective words
event_of files name.TakeFile words = take_file_of words
event_of files name.Release words = one_of spelled_label words >>= λ label. Ok (Release label)
event_of files name.Ask words = ask_of files words
event_of files name.Prepare words = do
  word ← three_of spelled_label spelled_task spelled_label words
  Ok (Prepare word.0 word.1 word.2)
event_of files name.Alter words = alter_of files words
event_of files name.Commit words = one_of spelled_label words >>= λ label. Ok (Commit label)
event_of files name.Abort words = one_of spelled_label words >>= λ label. Ok (Abort label)
event_of files name.Override words = override_of words
event_of files name.Revert words = one_of spelled_task words >>= λ task. Ok (Revert task)
event_of files name.Begin words = begin_of words
event_of files name.Act words = one_of line_number_of words >>= λ line. Ok (Act line)
event_of files name.Sweep words = no_words words >>= λ end. Ok Sweep

-- A line of this form, where these files are declared before it. `init T P ID ID N` creates a
-- first task, with its process, user, group and namespace. `ns NUM ID NUM` declares a namespace,
-- with its number, its root id and its parent's number. `lane NUM` opens a lane, or continues it.
-- A line that a task begins names that task as the one that acts, also `close`, whose event names
-- none.
unfoldable pub parse_form : List NamedFile → Form → List (List ℕ) → Result Parsed Reason
parse_form files form.Init words = do
  word ← five_of spelled_task spelled_process id_of id_of namespace_of words
  Ok (Starts (One (Init word.0 word.1 word.2 word.3 word.4)))
parse_form files form.File words = do
  file ← file_of files words
  Ok (File file)
parse_form files form.Namespace words = do
  word ← three_of new_namespace_of id_of parent_of words
  Ok (Namespace word.0 word.1 word.2)
parse_form files form.Lane words = do
  number ← one_of lane_number_of words
  Ok (Lane number)
parse_form files (form.Task task) words = do
  content ← content_of files task words
  Ok (Holds (Some task) content)
parse_form files (form.Event named) words = do
  event ← event_of files named words
  Ok (Holds (event_actor event) (One event))
