-- The events that words are read as fit, but for what they name of the script.
use Rattle.std.proofs.Common.{◌≡◌, ℕ, ◌<◌, Option, Some, None, All, List, [], ◌∷◌, ok_or, length, refl, arith}
use Rattle.std.specs.Option.{option_or}
use Rattle.std.specs.Str.{bytes_eq}
use Rattle.std.proofs.lemmas.List.Quantifiers.{position-Some}
use Rattle.cred_ids.specs.Id.{IsId}
use Rattle.cred_caps.specs.Caps.{IsCaps}
use Rattle.cred_caps.specs.Names.{cap_names}
use Rattle.cred_record.specs.File.{IsMode}
use Rattle.cred_record.specs.declared.want.Want.{Want}
use Rattle.cred_event.specs.declared.content.FileCall.{FileCall}
use Rattle.cred_event.specs.declared.content.FileCall.TheVariants as call
use Rattle.cred_event.specs.declared.event.Side.{Side}
use Rattle.cred_event.specs.declared.event.Side.TheVariants.{Subjective, Objective}
use Rattle.cred_model.specs.Course.{calling}
use Rattle.cred_model.specs.Script.{NamedFile}
use Rattle.cred_spelling.specs.declared.reason.Reason.TheVariants.{Word}
use Rattle.cred_spelling.specs.declared.names.IdName.{IdName}
use Rattle.cred_spelling.specs.declared.names.IdName.TheVariants as id_name
use Rattle.cred_spelling.specs.declared.names.ChangeName.{ChangeName}
use Rattle.cred_spelling.specs.declared.names.ChangeName.TheVariants as change_name
use Rattle.cred_spelling.specs.declared.names.QueryName.{QueryName}
use Rattle.cred_spelling.specs.declared.names.QueryName.TheVariants as query_name
use Rattle.cred_spelling.specs.declared.names.FileCallName.{FileCallName}
use Rattle.cred_spelling.specs.declared.names.FileCallName.TheVariants as file_call
use Rattle.cred_spelling.specs.Names as names
use Rattle.cred_spelling.specs.Spellings as spelling
use Rattle.cred_spelling.specs.Words.{word_of, no_words, bare, one_of, two_of, three_of, five_of}
use Rattle.cred_grammar.specs.Modes.{look_mode}
use Rattle.cred_grammar.specs.Changes as changes
use Rattle.cred_grammar.specs.FileCalls as file_calls
use Rattle.cred_grammar.specs.Files.{file_at}
use Rattle.cred_grammar.specs.IdCalls as calls
use Rattle.cred_grammar.specs.Questions as questions
use Rattle.cred_reader.specs.declared.names.EventWord.{EventWord}
use Rattle.cred_reader.specs.declared.names.EventWord.TheVariants as name
use Rattle.cred_reader.specs.declared.names.LabelEvent.{LabelEvent}
use Rattle.cred_reader.specs.declared.names.LabelEvent.TheVariants as by_label
use Rattle.cred_reader.specs.declared.names.TaskEvent.{TaskEvent}
use Rattle.cred_reader.specs.declared.names.TaskEvent.TheVariants as by_task
use Rattle.cred_reader.specs.Events as spec
use Rattle.cred_reader.specs.Fits.{IsNumber, IsArg, IsNamespace, IsWant, AreBytes, FitsCall, FitsChange, FitsQuery, FitsFileCall, FitsEvent}
use Rattle.cred_reader.specs.Kinds as kinds
use Rattle.cred_reader.proofs.FileWords.{mode_fits, attr_fits}
use Rattle.cred_reader.proofs.Spelled.{Holds, HoldsSome, OfAll, then_holds, word_holds, one_holds, two_holds, three_holds, five_holds, any_holds}
use Rattle.cred_reader.proofs.KindsFit.{number_fits, id_fits, arg_fits, set_fits, namespace_fits, want_fits, task_fits, process_fits, label_fits, fd_fits}
use Rattle.cred_reader.proofs.KindsFit.{ids_fit}

pub bare_holds : {A : Type 0} (P : A → Type 0) (words : List (List ℕ)) (value : A) → P value → Holds P (bare words value)
bare_holds P [] value h = h
bare_holds P (w ∷ ws) value h = tt

few_names : (place : ℕ) → place < length cap_names → IsNumber place
unfolding cap_names
few_names place h = omega arith

-- a capability is a number, or the place of a name
place_fits : (word : List ℕ) → HoldsSome IsNumber (spelling.cap_named word)
place_fits word = at (spelling.cap_named word) refl
  where
    at : (o : Option ℕ) → spelling.cap_named word ≡ o → HoldsSome IsNumber o
    at None e = tt
    at (Some place) e = let inside = (position-Some (bytes_eq word) cap_names place word e).0 in few_names place inside

pub or_holds : {A : Type 0} (P : A → Type 0) (a b : Option A) → HoldsSome P a → HoldsSome P b → HoldsSome P (option_or a b)
or_holds P (Some x) b ha hb = ha
or_holds P None b ha hb = hb

pub cap_fits : OfAll IsNumber spelling.cap_of
cap_fits word = or_holds IsNumber (spelling.number_of word) (spelling.cap_named word) (number_fits word) (place_fits word)

pub call_fits : (kind : IdName) (words : List (List ℕ)) → Holds FitsCall (calls.id_call_of kind words)
unfolding calls.id_call_of
call_fits id_name.SetUid words = then_holds IsArg FitsCall (one_of spelling.arg_of words) _ (one_holds IsArg spelling.arg_of arg_fits words) (λ v h. h)
call_fits id_name.SetEuid words = then_holds IsArg FitsCall (one_of spelling.arg_of words) _ (one_holds IsArg spelling.arg_of arg_fits words) (λ v h. h)
call_fits id_name.SetReuid words =
    then_holds _ FitsCall (two_of spelling.arg_of spelling.arg_of words) _ (two_holds IsArg IsArg spelling.arg_of spelling.arg_of arg_fits arg_fits words)
    (λ v h. h)
call_fits id_name.SetResuid words =
    then_holds _ FitsCall (three_of spelling.arg_of spelling.arg_of spelling.arg_of words) _
    (three_holds IsArg IsArg IsArg spelling.arg_of spelling.arg_of spelling.arg_of arg_fits arg_fits arg_fits words) (λ v h. h)
call_fits id_name.SetGid words = then_holds IsArg FitsCall (one_of spelling.arg_of words) _ (one_holds IsArg spelling.arg_of arg_fits words) (λ v h. h)
call_fits id_name.SetEgid words = then_holds IsArg FitsCall (one_of spelling.arg_of words) _ (one_holds IsArg spelling.arg_of arg_fits words) (λ v h. h)
call_fits id_name.SetRegid words =
    then_holds _ FitsCall (two_of spelling.arg_of spelling.arg_of words) _ (two_holds IsArg IsArg spelling.arg_of spelling.arg_of arg_fits arg_fits words)
    (λ v h. h)
call_fits id_name.SetResgid words =
    then_holds _ FitsCall (three_of spelling.arg_of spelling.arg_of spelling.arg_of words) _
    (three_holds IsArg IsArg IsArg spelling.arg_of spelling.arg_of spelling.arg_of arg_fits arg_fits arg_fits words) (λ v h. h)
call_fits id_name.SetGroups words = then_holds (All IsId) FitsCall (calls.ids words) _ (ids_fit words) (λ v h. h)

named_call_fits : (name : List ℕ) (words : List (List ℕ)) → Holds FitsCall (spec.call_named name words)
unfolding spec.call_named
named_call_fits name words =
    then_holds (λ kind. Unit {0}) FitsCall (ok_or (names.id_name name) Word) _ (any_holds (ok_or (names.id_name name) Word)) (λ kind u. call_fits kind words)

exec_fits : (files : List NamedFile) (words : List (List ℕ)) → Holds FitsChange (changes.exec_of files words)
unfolding changes.exec_of
exec_fits files [] = tt
exec_fits files (word ∷ []) = then_holds (λ file. Unit {0}) FitsChange (file_at files word) _ (any_holds (file_at files word)) (λ v h. tt)
exec_fits files (word ∷ other ∷ words) = tt

pub change_fits : (files : List NamedFile) (kind : ChangeName) (words : List (List ℕ)) → Holds FitsChange (changes.change_of files kind words)
unfolding changes.change_of
change_fits files (change_name.SetFs kind) words =
    then_holds IsArg FitsChange (one_of spelling.arg_of words) _ (one_holds IsArg spelling.arg_of arg_fits words) (λ v h. h)
change_fits files change_name.Capset words =
    then_holds _ FitsChange (three_of spelling.set_of spelling.set_of spelling.set_of words) _
    (three_holds IsCaps IsCaps IsCaps spelling.set_of spelling.set_of spelling.set_of set_fits set_fits set_fits words) (λ v h. h)
change_fits files change_name.BoundDrop words =
    then_holds IsNumber FitsChange (one_of spelling.cap_of words) _ (one_holds IsNumber spelling.cap_of cap_fits words) (λ v h. h)
change_fits files change_name.AmbRaise words =
    then_holds IsNumber FitsChange (one_of spelling.cap_of words) _ (one_holds IsNumber spelling.cap_of cap_fits words) (λ v h. h)
change_fits files change_name.AmbLower words =
    then_holds IsNumber FitsChange (one_of spelling.cap_of words) _ (one_holds IsNumber spelling.cap_of cap_fits words) (λ v h. h)
change_fits files change_name.AmbClear words = bare_holds FitsChange words _ tt
change_fits files change_name.Bits words =
    then_holds IsNumber FitsChange (one_of spelling.number_of words) _ (one_holds IsNumber spelling.number_of number_fits words) (λ v h. h)
change_fits files change_name.KeepCaps words =
    then_holds IsNumber FitsChange (one_of spelling.number_of words) _ (one_holds IsNumber spelling.number_of number_fits words) (λ v h. h)
change_fits files change_name.NoNewPrivs words =
    then_holds IsNumber FitsChange (one_of spelling.number_of words) _ (one_holds IsNumber spelling.number_of number_fits words) (λ v h. h)
change_fits files change_name.Exec words = exec_fits files words
change_fits files change_name.Access words = bare_holds FitsChange words _ tt

named_change_fits : (files : List NamedFile) (name : List ℕ) (words : List (List ℕ)) → Holds FitsChange (spec.change_named files name words)
unfolding spec.change_named
named_change_fits files name words =
    then_holds (λ kind. Unit {0}) FitsChange (ok_or (names.altered_name name) Word) _ (any_holds (ok_or (names.altered_name name) Word))
    (λ kind h. change_fits files kind words)

-- what is wanted of a file that a line names
pub asked_fits : (files : List NamedFile) (words : List (List ℕ)) → Holds (λ (asked : ℕ × Want). IsWant asked.1) (questions.file_and_want files words)
unfolding questions.file_and_want
asked_fits files [] = tt
asked_fits files (name ∷ []) = tt
asked_fits files (name ∷ want ∷ []) =
    then_holds (λ file. Unit {0}) _ (file_at files name) _ (any_holds (file_at files name)) (λ file h.
    then_holds IsWant _ (word_of spelling.want_of want) _ (word_holds IsWant spelling.want_of want_fits want) (λ v w. w))
asked_fits files (name ∷ want ∷ more ∷ words) = tt

-- the arguments of a call on a file
pub file_call_fits : (files : List NamedFile) (called : FileCallName) (words : List (List ℕ)) → Holds FitsFileCall (file_calls.file_call_of files called words)
unfolding file_calls.file_call_of file_calls.chown_of file_calls.chmod_of file_calls.set_attr_of
file_call_fits files file_call.Chown [] = tt
file_call_fits files file_call.Chown (name ∷ []) = tt
file_call_fits files file_call.Chown (name ∷ owner ∷ []) = tt
file_call_fits files file_call.Chown (name ∷ owner ∷ group ∷ []) =
    then_holds (λ file. Unit {0}) FitsFileCall (file_at files name) _ (any_holds (file_at files name)) (λ file u.
    then_holds _ FitsFileCall (two_of spelling.arg_of spelling.arg_of (owner ∷ group ∷ [])) _
    (two_holds IsArg IsArg spelling.arg_of spelling.arg_of arg_fits arg_fits (owner ∷ group ∷ [])) (λ v h. h))
file_call_fits files file_call.Chown (name ∷ owner ∷ group ∷ more ∷ words) = tt
file_call_fits files file_call.Chmod [] = tt
file_call_fits files file_call.Chmod (name ∷ []) = tt
file_call_fits files file_call.Chmod (name ∷ bits ∷ []) =
    then_holds (λ file. Unit {0}) FitsFileCall (file_at files name) _ (any_holds (file_at files name)) (λ file u.
    then_holds (λ mode. IsMode mode) FitsFileCall (word_of spelling.mode_of bits) _ (word_holds (λ mode. IsMode mode) spelling.mode_of mode_fits bits)
    (λ mode h. h))
file_call_fits files file_call.Chmod (name ∷ bits ∷ more ∷ words) = tt
file_call_fits files file_call.SetAttr [] = tt
file_call_fits files file_call.SetAttr (name ∷ []) = tt
file_call_fits files file_call.SetAttr (name ∷ digits ∷ []) =
    then_holds (λ file. Unit {0}) FitsFileCall (file_at files name) _ (any_holds (file_at files name)) (λ file u.
    then_holds AreBytes FitsFileCall (word_of spelling.bytes_of digits) _ (word_holds AreBytes spelling.bytes_of attr_fits digits) (λ bytes h. h))
file_call_fits files file_call.SetAttr (name ∷ digits ∷ more ∷ words) = tt
file_call_fits files file_call.ClearAttr words =
    then_holds (λ file. Unit {0}) FitsFileCall (file_calls.file_alone files words) _ (any_holds (file_calls.file_alone files words)) (λ file u. tt)
file_call_fits files file_call.Stat words =
    then_holds (λ file. Unit {0}) FitsFileCall (file_calls.file_alone files words) _ (any_holds (file_calls.file_alone files words)) (λ file u. tt)

-- the event of such a call
pub calling_fits : (hold : ℕ) (call : FileCall) → IsNumber hold → FitsFileCall call → FitsEvent (calling hold call)
calling_fits hold (call.Chown file owner group) small fits = (small, fits.0, fits.1)
calling_fits hold (call.Chmod file mode) small fits = (small, fits)
calling_fits hold (call.SetAttr file attr) small fits = (small, fits)
calling_fits hold (call.Stat file) small fits = small

pub query_fits : (files : List NamedFile) (kind : QueryName) (words : List (List ℕ)) → Holds FitsQuery (questions.query_of files kind words)
unfolding questions.query_of
query_fits files query_name.Ids words = bare_holds FitsQuery words _ tt
query_fits files query_name.Caps words = bare_holds FitsQuery words _ tt
query_fits files query_name.Groups words = bare_holds FitsQuery words _ tt
query_fits files query_name.Bits words = bare_holds FitsQuery words _ tt
query_fits files query_name.Capable words =
    then_holds IsNumber FitsQuery (one_of spelling.cap_of words) _ (one_holds IsNumber spelling.cap_of cap_fits words) (λ v h. h)
query_fits files query_name.Bset words =
    then_holds IsNumber FitsQuery (one_of spelling.cap_of words) _ (one_holds IsNumber spelling.cap_of cap_fits words) (λ v h. h)
query_fits files query_name.AmbIs words =
    then_holds IsNumber FitsQuery (one_of spelling.cap_of words) _ (one_holds IsNumber spelling.cap_of cap_fits words) (λ v h. h)
query_fits files query_name.Check words =
    then_holds (λ (asked : ℕ × Want). IsWant asked.1) FitsQuery (questions.file_and_want files words) _ (asked_fits files words) (λ asked h. h)

named_query_fits : (files : List NamedFile) (name : List ℕ) (words : List (List ℕ)) → Holds FitsQuery (questions.query_named files name words)
unfolding questions.query_named
named_query_fits files name words =
    then_holds (λ kind. Unit {0}) FitsQuery (ok_or (names.query_name name) Word) _ (any_holds (ok_or (names.query_name name) Word))
    (λ kind h. query_fits files kind words)

init_fits : (words : List (List ℕ)) → Holds FitsEvent (spec.init_of words)
unfolding spec.init_of
init_fits words =
    then_holds _ FitsEvent (five_of kinds.task_word kinds.process_word spelling.id_of spelling.id_of spelling.namespace_of words) _
    (five_holds IsNumber IsNumber IsId IsId IsNamespace kinds.task_word kinds.process_word spelling.id_of spelling.id_of spelling.namespace_of task_fits
    process_fits id_fits id_fits namespace_fits words)
    (λ v h. h)

take_fits : (side : Side) (words : List (List ℕ)) → Holds FitsEvent (spec.read_take side words)
unfolding spec.read_take
take_fits side words =
    then_holds _ FitsEvent (two_of kinds.label_word kinds.task_word words) _
    (two_holds IsNumber IsNumber kinds.label_word kinds.task_word label_fits task_fits words) (λ v h. h)

ask_fits : (files : List NamedFile) (words : List (List ℕ)) → Holds FitsEvent (spec.read_ask files words)
unfolding spec.read_ask
ask_fits files [] = tt
ask_fits files (hold ∷ []) = tt
ask_fits files (hold ∷ asked ∷ words) =
    then_holds IsNumber FitsEvent (word_of kinds.label_word hold) _ (word_holds IsNumber kinds.label_word label_fits hold) (λ label l.
    then_holds FitsQuery FitsEvent (questions.query_named files asked words) _ (named_query_fits files asked words) (λ query q. (l, q)))

signal_fits : (words : List (List ℕ)) → Holds FitsEvent (spec.signal_of words)
unfolding spec.signal_of
signal_fits [] = tt
signal_fits (from ∷ []) = tt
signal_fits (from ∷ hold ∷ words) =
    then_holds _ FitsEvent (two_of kinds.task_word kinds.label_word (from ∷ hold ∷ [])) _
    (two_holds IsNumber IsNumber kinds.task_word kinds.label_word task_fits label_fits (from ∷ hold ∷ [])) (λ sender s.
    then_holds _ FitsEvent (two_of kinds.task_word kinds.label_word words) _
    (two_holds IsNumber IsNumber kinds.task_word kinds.label_word task_fits label_fits words) (λ other o. (s.0, s.1, o.0, o.1)))

alter_fits : (files : List NamedFile) (words : List (List ℕ)) → Holds FitsEvent (spec.read_alter files words)
unfolding spec.read_alter
alter_fits files [] = tt
alter_fits files (prepared ∷ []) = tt
alter_fits files (prepared ∷ changed ∷ words) =
    then_holds IsNumber FitsEvent (word_of kinds.label_word prepared) _ (word_holds IsNumber kinds.label_word label_fits prepared) (λ label l.
    then_holds FitsChange FitsEvent (spec.change_named files changed words) _ (named_change_fits files changed words) (λ change c. (l, c)))

begin_fits : (words : List (List ℕ)) → Holds FitsEvent (spec.read_begin words)
unfolding spec.read_begin
begin_fits [] = tt
begin_fits (caller ∷ []) = tt
begin_fits (caller ∷ called ∷ words) =
    then_holds IsNumber FitsEvent (word_of kinds.task_word caller) _ (word_holds IsNumber kinds.task_word task_fits caller) (λ task t.
    then_holds FitsCall FitsEvent (spec.call_named called words) _ (named_call_fits called words) (λ call c. (t, c)))

raw_fits : (words : List (List ℕ)) → Holds FitsEvent (spec.read_raw words)
unfolding spec.read_raw
raw_fits [] = tt
raw_fits (caller ∷ []) = tt
raw_fits (caller ∷ called ∷ words) =
    then_holds IsNumber FitsEvent (word_of kinds.task_word caller) _ (word_holds IsNumber kinds.task_word task_fits caller) (λ task t.
    then_holds FitsCall FitsEvent (spec.call_named called words) _ (named_call_fits called words) (λ call c. (t, c)))

open_fits : (files : List NamedFile) (words : List (List ℕ)) → Holds FitsEvent (spec.read_open files words)
unfolding spec.read_open
open_fits files [] = tt
open_fits files (hold ∷ []) = tt
open_fits files (hold ∷ name ∷ words) =
    then_holds IsNumber FitsEvent (word_of kinds.label_word hold) _ (word_holds IsNumber kinds.label_word label_fits hold) (λ label l.
    then_holds (λ file. Unit {0}) FitsEvent (file_at files name) _ (any_holds (file_at files name)) (λ file u.
    then_holds _ FitsEvent (two_of spelling.want_of kinds.fd_of words) _ (two_holds IsWant IsNumber spelling.want_of kinds.fd_of want_fits fd_fits words)
    (λ v h. (l, h.0, h.1))))

label_event_fits : (files : List NamedFile) (kind : LabelEvent) (words : List (List ℕ)) → Holds FitsEvent (spec.label_event files kind words)
unfolding spec.label_event
label_event_fits files by_label.Take words = take_fits Subjective words
label_event_fits files by_label.TakeReal words = take_fits Objective words
label_event_fits files by_label.TakeFile words =
    then_holds _ FitsEvent (two_of kinds.label_word kinds.fd_of words) _ (two_holds IsNumber IsNumber kinds.label_word kinds.fd_of label_fits fd_fits words)
    (λ v h. h)
label_event_fits files by_label.Release words =
    then_holds IsNumber FitsEvent (one_of kinds.label_word words) _ (one_holds IsNumber kinds.label_word label_fits words) (λ v h. h)
label_event_fits files by_label.Ask words = ask_fits files words
label_event_fits files by_label.Prepare words =
    then_holds _ FitsEvent (three_of kinds.label_word kinds.task_word kinds.label_word words) _
    (three_holds IsNumber IsNumber IsNumber kinds.label_word kinds.task_word kinds.label_word label_fits task_fits label_fits words) (λ v h. h)
label_event_fits files by_label.Alter words = alter_fits files words
label_event_fits files by_label.Commit words =
    then_holds IsNumber FitsEvent (one_of kinds.label_word words) _ (one_holds IsNumber kinds.label_word label_fits words) (λ v h. h)
label_event_fits files by_label.Abort words =
    then_holds IsNumber FitsEvent (one_of kinds.label_word words) _ (one_holds IsNumber kinds.label_word label_fits words) (λ v h. h)
label_event_fits files by_label.OpenFile words = open_fits files words

task_event_fits : (kind : TaskEvent) (words : List (List ℕ)) → Holds FitsEvent (spec.task_event kind words)
unfolding spec.task_event
task_event_fits by_task.Init words = init_fits words
task_event_fits by_task.Signal words = signal_fits words
task_event_fits by_task.Override words =
    then_holds _ FitsEvent (two_of kinds.task_word kinds.label_word words) _
    (two_holds IsNumber IsNumber kinds.task_word kinds.label_word task_fits label_fits words) (λ v h. h)
task_event_fits by_task.Revert words =
    then_holds IsNumber FitsEvent (one_of kinds.task_word words) _ (one_holds IsNumber kinds.task_word task_fits words) (λ v h. h)
task_event_fits by_task.Begin words = begin_fits words
task_event_fits by_task.Spawn words =
    then_holds _ FitsEvent (two_of kinds.task_word kinds.task_word words) _
    (two_holds IsNumber IsNumber kinds.task_word kinds.task_word task_fits task_fits words) (λ v h. h)
task_event_fits by_task.Fork words =
    then_holds _ FitsEvent (three_of kinds.task_word kinds.task_word kinds.process_word words) _
    (three_holds IsNumber IsNumber IsNumber kinds.task_word kinds.task_word kinds.process_word task_fits task_fits process_fits words) (λ v h. h)
task_event_fits by_task.Exit words =
    then_holds IsNumber FitsEvent (one_of kinds.task_word words) _ (one_holds IsNumber kinds.task_word task_fits words) (λ v h. h)
task_event_fits by_task.Dumpable words =
    then_holds _ FitsEvent (two_of kinds.task_word spelling.number_of words) _
    (two_holds IsNumber IsNumber kinds.task_word spelling.number_of task_fits number_fits words) (λ v h. h)
task_event_fits by_task.Dumped words =
    then_holds IsNumber FitsEvent (one_of kinds.task_word words) _ (one_holds IsNumber kinds.task_word task_fits words) (λ v h. h)
task_event_fits by_task.Raw words = raw_fits words

ptrace_fits : (words : List (List ℕ)) → Holds FitsEvent (spec.ptrace_of words)
unfolding spec.ptrace_of
ptrace_fits [] = tt
ptrace_fits (asked ∷ []) = tt
ptrace_fits (asked ∷ from ∷ []) = tt
ptrace_fits (asked ∷ from ∷ hold ∷ words) =
    then_holds (λ mode. Unit {0}) FitsEvent (word_of look_mode asked) _ (any_holds (word_of look_mode asked)) (λ mode u.
    then_holds _ FitsEvent (two_of kinds.task_word kinds.label_word (from ∷ hold ∷ [])) _
    (two_holds IsNumber IsNumber kinds.task_word kinds.label_word task_fits label_fits (from ∷ hold ∷ [])) (λ sender s.
    then_holds _ FitsEvent (two_of kinds.task_word kinds.label_word words) _
    (two_holds IsNumber IsNumber kinds.task_word kinds.label_word task_fits label_fits words) (λ other o. (s.0, s.1, o.0, o.1))))

file_event_fits : (files : List NamedFile) (called : FileCallName) (words : List (List ℕ)) → Holds FitsEvent (spec.file_event files called words)
unfolding spec.file_event
file_event_fits files called [] = tt
file_event_fits files called (hold ∷ words) =
    then_holds IsNumber FitsEvent (word_of kinds.label_word hold) _ (word_holds IsNumber kinds.label_word label_fits hold) (λ label l.
    then_holds FitsFileCall FitsEvent (file_calls.file_call_of files called words) _ (file_call_fits files called words)
    (λ call c. calling_fits label call l c))

named_event_fits : (files : List NamedFile) (kind : EventWord) (words : List (List ℕ)) → Holds FitsEvent (spec.event_named files kind words)
unfolding spec.event_named
named_event_fits files (name.Label kind) words = label_event_fits files kind words
named_event_fits files (name.Task kind) words = task_event_fits kind words
named_event_fits files name.Act words =
    then_holds IsNumber FitsEvent (one_of spelling.number_of words) _ (one_holds IsNumber spelling.number_of number_fits words) (λ v h. h)
named_event_fits files name.CloseFile words =
    then_holds IsNumber FitsEvent (one_of kinds.fd_of words) _ (one_holds IsNumber kinds.fd_of fd_fits words) (λ v h. h)
named_event_fits files name.Sweep words = then_holds (λ end. Unit {0}) FitsEvent (no_words words) _ (any_holds (no_words words)) (λ end h. tt)
named_event_fits files name.Ptrace words = ptrace_fits words
named_event_fits files (name.File called) words = file_event_fits files called words

pub event_fits : (files : List NamedFile) (words : List (List ℕ)) → Holds FitsEvent (spec.read_event files words)
unfolding spec.read_event
event_fits files [] = tt
event_fits files (word ∷ words) =
    then_holds (λ kind. Unit {0}) FitsEvent (ok_or (spec.event_name word) Word) _ (any_holds (ok_or (spec.event_name word) Word))
    (λ kind h. named_event_fits files kind words)
