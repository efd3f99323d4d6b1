-- The answer that words are the text of, for an event. The event says how the words after `ok` are
-- read. What tells no value isn't read: an entry is compared with its text as a whole.
use Rattle.std.specs.Prelude.{ℕ, ◌==◌, List, [], ◌∷◌, length, codes, Result, Ok, Err, ok_or, Some}
use Rattle.std.specs.Prelude.{None, if◌then◌else◌}
use Rattle.std.specs.declared.option.Option.{Option}
use Rattle.std.specs.Str.{bytes_eq}
use Rattle.cred_event.specs.declared.event.Query.{Query}
use Rattle.cred_event.specs.declared.event.Query.TheVariants as query
use Rattle.cred_event.specs.declared.event.Event.{Event}
use Rattle.cred_event.specs.declared.event.Event.TheVariants as event
use Rattle.cred_event.specs.declared.answer.Named.{Named}
use Rattle.cred_event.specs.declared.answer.Named.TheVariants as named
use Rattle.cred_event.specs.declared.answer.Counted.{Counted}
use Rattle.cred_event.specs.declared.answer.Counted.TheVariants as counted
use Rattle.cred_event.specs.declared.answer.AbortCause.{AbortCause}
use Rattle.cred_event.specs.declared.answer.AbortCause.TheVariants as cause
use Rattle.cred_event.specs.declared.answer.Told.TheVariants as told
use Rattle.cred_event.specs.declared.answer.Answer.{Answer}
use Rattle.cred_event.specs.declared.answer.Answer.TheVariants as answer
use Rattle.cred_spelling.specs.declared.reason.Reason.{Reason}
use Rattle.cred_spelling.specs.declared.reason.Reason.TheVariants.{Word, Count}
use Rattle.cred_spelling.specs.Spellings.{letter, id_of, mode_of, set_of, number_of}
use Rattle.cred_spelling.specs.Table as table
use Rattle.cred_spelling.specs.Words.{word_of, one_of, two_of, three_of, five_of}
use Rattle.cred_grammar.specs.IdCalls.{ids}
use Rattle.cred_reader.specs.declared.answers.AnswerForm.{AnswerForm}
use Rattle.cred_reader.specs.declared.answers.AnswerForm.TheVariants.{Nothing, Ids, Caps, Groups}
use Rattle.cred_reader.specs.declared.answers.AnswerForm.TheVariants.{Bits}
use Rattle.cred_reader.specs.declared.answers.AnswerForm.TheVariants.{Flag, File}
use Rattle.cred_reader.specs.Kinds.{task_word, label_word, cred_of, slot_word, flag_of, bits_of}
use Rattle.cred_ids.specs.Tests.{◌>>=◌}

-- what a question asks for
abbrev pub query_tells : Query → AnswerForm
query_tells query.Ids = Ids
query_tells query.Caps = Caps
query_tells query.Groups = Groups
query_tells query.Bits = Bits
query_tells (query.Capable cap) = Flag
query_tells (query.Bset cap) = Flag
query_tells (query.AmbIs cap) = Flag
query_tells (query.Check file want) = Nothing

-- what an event asks for
abbrev pub told_by : Event → AnswerForm
told_by (event.Ask label query) = query_tells query
told_by (event.Dumped task) = Flag
told_by (event.Stat hold file) = File
told_by event = Nothing

-- ids of users and ids of groups, four of each
unfoldable pub ids_told : List (List ℕ) → Result Answer Reason
ids_told (a ∷ b ∷ c ∷ words) = do
  user ← three_of id_of id_of id_of (a ∷ b ∷ c ∷ [])
  rest ← five_of id_of id_of id_of id_of id_of words
  Ok (answer.Told (told.Ids
      (record { real = user.0; effective = user.1; saved = user.2; fs = rest.0 })
      (record { real = rest.1; effective = rest.2; saved = rest.3; fs = rest.4 })))
ids_told words = Err Count

-- the task that followed a broadcast, its new credential, and how many are left
unfoldable pub acted : List (List ℕ) → Result Answer Reason
acted (task ∷ a ∷ b ∷ left ∷ number ∷ []) = do
  word ← two_of task_word cred_of (task ∷ a ∷ [])
  rest ← two_of slot_word number_of (b ∷ number ∷ [])
  Ok (answer.Acted word.0 word.1 rest.0 rest.1)
acted words = Err Count

-- a sealed credential and its slot, and what came of it
unfoldable pub longest : List (List ℕ) → Result Answer Reason
longest (a ∷ b ∷ left ∷ number ∷ []) = do
  word ← three_of cred_of slot_word number_of (a ∷ b ∷ number ∷ [])
  Ok (answer.Began word.0 word.1 word.2)
longest (a ∷ b ∷ ended ∷ number ∷ gain ∷ words) = do
  word ← three_of cred_of slot_word number_of (a ∷ b ∷ number ∷ [])
  set ← three_of set_of set_of set_of words
  Ok (answer.Executed word.0 word.1 word.2
      (record { file = set.0; inherit = set.1; root = set.2 }))
longest words = Err Count

-- the answers of more than two words: one alone has five
unfoldable pub longer : List (List ℕ) → Result Answer Reason
longer words = if length words == 5 then acted words else longest words

-- `ok` with no value, or with values that answer no question
unfoldable pub plain : List (List ℕ) → Result Answer Reason
plain [] = Ok answer.Done
plain (slot ∷ []) = do
  kept ← word_of slot_word slot
  Ok (answer.Kept kept)
plain (a ∷ b ∷ []) =
    if bytes_eq a (codes "was")
    then (word_of id_of b >>= λ id. Ok (answer.Was id))
    else (two_of cred_of slot_word (a ∷ b ∷ []) >>= λ word. Ok (answer.Sealed word.0 word.1))
plain words = longer words

-- the owner, the group and the mode of a file, and whether it has an attribute
unfoldable pub file_told : List (List ℕ) → Result Answer Reason
file_told (owner ∷ group ∷ words) = do
  id ← two_of id_of id_of (owner ∷ group ∷ [])
  rest ← two_of mode_of flag_of words
  Ok (answer.Told (told.File id.0 id.1 rest.0 rest.1))
file_told words = Err Count

-- what stands after `ok`
unfoldable pub ok_words : AnswerForm → List (List ℕ) → Result Answer Reason
ok_words Nothing words = plain words
ok_words Ids words = ids_told words
ok_words Caps words = do
  set ← five_of set_of set_of set_of set_of set_of words
  Ok (answer.Told (told.Caps set.0 set.1 set.2 set.3 set.4))
ok_words Groups words = do
  groups ← ids words
  Ok (answer.Told (told.Groups groups))
ok_words Bits words = do
  word ← two_of bits_of flag_of words
  Ok (answer.Told (told.Bits word.0 word.1))
ok_words Flag words = do
  flag ← one_of flag_of words
  Ok (answer.Told (told.Flag flag))
ok_words File words = file_told words

-- a refusal of one word
abbrev pub one_word : List ℕ → Option Answer
one_word word =
    if bytes_eq word (codes "eperm") then Some answer.Eperm
    else if bytes_eq word (codes "einval") then Some answer.Einval
    else if bytes_eq word (codes "eacces") then Some answer.Eacces
    else if bytes_eq word (codes "ebadf") then Some answer.Ebadf
    else None

-- the kind of thing that already has a number, by its letter
abbrev pub what_of : ℕ → Option Named
what_of byte =
    if byte == letter (codes "t") then Some named.Task
    else if byte == letter (codes "p") then Some named.Process
    else if byte == letter (codes "h") then Some named.Label
    else if byte == letter (codes "f") then Some named.File
    else if byte == letter (codes "k") then Some named.Broadcast
    else None

-- the thing that already has a number
unfoldable pub exists_of : List ℕ → Result Answer Reason
exists_of [] = Err Word
exists_of (first ∷ digits) = do
  what ← ok_or (what_of first) Word
  number ← word_of number_of digits
  Ok (answer.Exists what number)

-- a refusal of two words
unfoldable pub two_words : List ℕ → List ℕ → Result Answer Reason
two_words a b =
    if bytes_eq a (codes "busy") then (word_of number_of b
    >>= λ broadcast. Ok (answer.Busy broadcast))
    else if bytes_eq a (codes "exists") then exists_of b
    else if bytes_eq a (codes "overridden")
    then (word_of number_of b >>= λ depth. Ok (answer.Overridden depth))
    else if bytes_eq a (codes "not") then Ok answer.NotOverridden
    else if bytes_eq a (codes "too") then Ok answer.TooDeep
    else if bytes_eq a (codes "table") then Ok answer.TableFull
    else Err Word

-- what isn't there
unfoldable pub no_of : List ℕ → List ℕ → Result Answer Reason
no_of what word =
    if bytes_eq what (codes "task") then (word_of task_word word
    >>= λ task. Ok (answer.NoTask task))
    else if bytes_eq what (codes "hold")
    then (word_of label_word word >>= λ label. Ok (answer.NoHold label))
    else if bytes_eq what (codes "prepared")
    then (word_of label_word word >>= λ label. Ok (answer.NoPrepared label))
    else if bytes_eq what (codes "broadcast")
    then (word_of number_of word >>= λ broadcast. Ok (answer.NoBroadcast broadcast))
    else Err Word

-- what there are too many of
unfoldable pub counted_names : List (List ℕ × Counted)
counted_names =
    (codes "tasks", counted.Tasks) ∷
    (codes "files", counted.Files) ∷
    (codes "holds", counted.Holds) ∷
    (codes "prepared", counted.Prepared) ∷
    []

abbrev pub counted_of : List ℕ → Option Counted
counted_of word = table.named counted_names word

-- why a thread could not follow
unfoldable pub cause_names : List (List ℕ × AbortCause)
cause_names = (codes "eperm", cause.Perm) ∷ (codes "full", cause.Full) ∷ []

abbrev pub cause_of : List ℕ → Option AbortCause
cause_of word = table.named cause_names word

-- a refusal of three words
unfoldable pub three_words : List ℕ → List ℕ → List ℕ → Result Answer Reason
three_words a b c =
    if bytes_eq a (codes "no") then no_of b c
    else if bytes_eq a (codes "stale")
    then (two_of cred_of cred_of (b ∷ c ∷ []) >>= λ word. Ok (answer.Stale word.0 word.1))
    else if bytes_eq a (codes "too")
    then (ok_or (counted_of c) Word >>= λ counted. Ok (answer.TooMany counted))
    else if bytes_eq a (codes "aborted")
    then (word_of task_word b >>= λ task. ok_or (cause_of c) Word >>= λ cause.
    Ok (answer.Aborted task cause))
    else Err Word

-- a refusal
unfoldable pub read_refusal : List (List ℕ) → Result Answer Reason
read_refusal (a ∷ []) = ok_or (one_word a) Word
read_refusal (a ∷ b ∷ []) = two_words a b
read_refusal (a ∷ b ∷ c ∷ []) = three_words a b c
read_refusal words = Err Count

-- the answer to an event that asks for this
unfoldable pub read_answer : AnswerForm → List (List ℕ) → Result Answer Reason
read_answer told [] = Err Count
read_answer told (word ∷ words) =
    if bytes_eq word (codes "ok") then ok_words told words else read_refusal (word ∷ words)
