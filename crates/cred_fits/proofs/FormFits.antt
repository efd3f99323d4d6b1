-- What a line of a script is parsed as has numbers and words that fit.
use Rattle.std.proofs.Common.{◌≡◌, ℕ, ◌==◌, true, Bool, false, cond, Option, Some, None, List, [], ◌∷◌, Result, Ok, Err, ok_or, refl}
use Rattle.std.specs.Prelude.{IsTrue, ⊤}
use Rattle.cred_ids.specs.Limits.{LAST_NUMBER, LINE_LIMIT}
use Rattle.cred_ids.specs.Id.{IsId}
use Rattle.cred_record.specs.declared.want.Want.{Want}
use Rattle.cred_record.specs.File.{IsMode}
use Rattle.cred_event.specs.declared.event.Side.{Side}
use Rattle.cred_event.specs.declared.event.Side.TheVariants.{Subjective, Objective}
use Rattle.cred_model.specs.Script.{NamedFile}
use Rattle.cred_spelling.specs.declared.names.Form.{Form}
use Rattle.cred_spelling.specs.declared.names.Form.TheVariants as form
use Rattle.cred_spelling.specs.declared.names.EventName.{EventName}
use Rattle.cred_spelling.specs.declared.names.EventName.TheVariants as name
use Rattle.cred_spelling.specs.declared.names.OtherName.{OtherName}
use Rattle.cred_spelling.specs.declared.names.OtherName.TheVariants as other
use Rattle.cred_spelling.specs.declared.names.CallName.{CallName}
use Rattle.cred_spelling.specs.declared.names.CallName.TheVariants as call
use Rattle.cred_spelling.specs.declared.reason.Reason.{Reason}
use Rattle.cred_spelling.specs.declared.reason.Reason.TheVariants.{Word}
use Rattle.cred_spelling.specs.Names as names
use Rattle.cred_spelling.specs.Spellings as spelling
use Rattle.cred_spelling.specs.Words.{word_of, name_of, no_words, one_of, two_of, three_of, five_of}
use Rattle.cred_grammar.specs.declared.forms.Parsed.{Parsed}
use Rattle.cred_grammar.specs.declared.forms.Parsed.TheVariants.{Empty, File, Starts, Lane, Holds}
use Rattle.cred_grammar.specs.declared.forms.Parsed.TheVariants as parsed
use Rattle.cred_grammar.specs.Changes.{change_of}
use Rattle.cred_grammar.specs.Files as files
use Rattle.cred_grammar.specs.IdCalls.{id_call_of}
use Rattle.cred_grammar.specs.Modes.{look_mode}
use Rattle.cred_grammar.specs.Questions.{query_of, query_named, file_and_want}
use Rattle.cred_grammar.specs.Calls as calls
use Rattle.cred_grammar.specs.Records.{record_of}
use Rattle.cred_grammar.specs.FileCalls as file_calls
use Rattle.cred_grammar.specs.Forms as forms
use Rattle.cred_reader.specs.Fits.{IsNumber, IsWant, IsNamespace, FitsCall, FitsChange, FitsQuery, FitsFileCall, FitsEvent}
use Rattle.cred_reader.proofs.Spelled as spelled
use Rattle.cred_reader.proofs.Spelled.{HoldsSome, OfAll, then_holds, word_holds, one_holds, two_holds, three_holds, five_holds, any_holds}
use Rattle.cred_reader.proofs.FileWords.{mode_fits}
use Rattle.cred_reader.proofs.KindsFit.{if_holds, then_some, map_some, either_holds, number_fits, id_fits, namespace_fits, RowsHold, named_fits}
use Rattle.cred_reader.proofs.EventsFit.{bare_holds, or_holds, cap_fits, call_fits, change_fits, asked_fits, query_fits, file_call_fits}
use Rattle.cred_fits.specs.Content.{FitsContent, FitsFile}
use Rattle.cred_fits.proofs.RecordFits.{FitsData, record_fits}

-- ---- words

within_fits : (least most : ℕ) → OfAll IsNumber (spelling.number_within least most)
within_fits least most word =
    then_some IsNumber IsNumber (spelling.number_of word) (spelling.within least most) (number_fits word) (λ n h. if_holds IsNumber _ n (λ t. h))

numbered_fits : (letter least most : ℕ) → OfAll IsNumber (spelling.letter_number letter least most)
numbered_fits letter least most [] = tt
numbered_fits letter least most (first ∷ digits) = either_holds IsNumber (first == letter) _ None (within_fits least most digits) tt

task_fits : OfAll IsNumber spelling.spelled_task
task_fits word = numbered_fits _ 1 LAST_NUMBER word

process_fits : OfAll IsNumber spelling.spelled_process
process_fits word = numbered_fits _ 1 LAST_NUMBER word

-- nothing is said of a mode
any_some : {A : Type 0} (found : Option A) → HoldsSome (λ a. Unit {0}) found
any_some None = tt
any_some (Some a) = tt

any_mode : OfAll (λ mode. Unit {0}) look_mode
any_mode word = any_some (look_mode word)

label_fits : OfAll IsNumber spelling.spelled_label
label_fits word = numbered_fits _ 1 LAST_NUMBER word

fd_fits : OfAll IsNumber spelling.descriptor_of
fd_fits word = numbered_fits _ 1 LAST_NUMBER word

line_fits : OfAll IsNumber spelling.line_number_of
line_fits word = within_fits 1 LINE_LIMIT word

-- ---- events

take_fits : (side : Side) (words : List (List ℕ)) → spelled.Holds FitsEvent (forms.take_of side words)
unfolding forms.take_of
take_fits side words =
    then_holds _ FitsEvent (two_of spelling.spelled_label spelling.spelled_task words) _
    (two_holds IsNumber IsNumber spelling.spelled_label spelling.spelled_task label_fits task_fits words) (λ v h. h)

take_file_fits : (words : List (List ℕ)) → spelled.Holds FitsEvent (forms.take_file_of words)
unfolding forms.take_file_of
take_file_fits words =
    then_holds _ FitsEvent (two_of spelling.spelled_label spelling.descriptor_of words) _
    (two_holds IsNumber IsNumber spelling.spelled_label spelling.descriptor_of label_fits fd_fits words) (λ v h. h)

named_query_fits : (known : List NamedFile) (asked : List ℕ) (words : List (List ℕ)) → spelled.Holds FitsQuery (query_named known asked words)
unfolding query_named
named_query_fits known asked words =
    then_holds (λ kind. Unit {0}) FitsQuery (ok_or (names.query_name asked) Word) _ (any_holds (ok_or (names.query_name asked) Word))
    (λ kind h. query_fits known kind words)

ask_fits : (known : List NamedFile) (words : List (List ℕ)) → spelled.Holds FitsEvent (forms.ask_of known words)
unfolding forms.ask_of
ask_fits known [] = tt
ask_fits known (hold ∷ []) = tt
ask_fits known (hold ∷ asked ∷ words) =
    then_holds FitsQuery FitsEvent (query_named known asked words) _ (named_query_fits known asked words) (λ query q.
    then_holds IsNumber FitsEvent (word_of spelling.spelled_label hold) _ (word_holds IsNumber spelling.spelled_label label_fits hold) (λ label l. (l, q)))

alter_fits : (known : List NamedFile) (words : List (List ℕ)) → spelled.Holds FitsEvent (forms.alter_of known words)
unfolding forms.alter_of
alter_fits known [] = tt
alter_fits known (prepared ∷ []) = tt
alter_fits known (prepared ∷ changed ∷ words) =
    then_holds (λ kind. Unit {0}) FitsEvent (ok_or (names.altered_name changed) Word) _ (any_holds (ok_or (names.altered_name changed) Word)) (λ kind u.
    then_holds FitsChange FitsEvent (change_of known kind words) _ (change_fits known kind words) (λ change c.
    then_holds IsNumber FitsEvent (word_of spelling.spelled_label prepared) _ (word_holds IsNumber spelling.spelled_label label_fits prepared)
    (λ label l. (l, c))))

override_fits : (words : List (List ℕ)) → spelled.Holds FitsEvent (forms.override_of words)
unfolding forms.override_of
override_fits words =
    then_holds _ FitsEvent (two_of spelling.spelled_task spelling.spelled_label words) _
    (two_holds IsNumber IsNumber spelling.spelled_task spelling.spelled_label task_fits label_fits words) (λ v h. h)

begin_fits : (words : List (List ℕ)) → spelled.Holds FitsEvent (forms.begin_of words)
unfolding forms.begin_of
begin_fits [] = tt
begin_fits (caller ∷ []) = tt
begin_fits (caller ∷ called ∷ words) =
    then_holds (λ kind. Unit {0}) FitsEvent (ok_or (names.id_name called) Word) _ (any_holds (ok_or (names.id_name called) Word)) (λ kind u.
    then_holds FitsCall FitsEvent (id_call_of kind words) _ (call_fits kind words) (λ made c.
    then_holds IsNumber FitsEvent (word_of spelling.spelled_task caller) _ (word_holds IsNumber spelling.spelled_task task_fits caller) (λ task t. (t, c))))

event_fits : (known : List NamedFile) (kind : EventName) (words : List (List ℕ)) → spelled.Holds FitsEvent (forms.event_of known kind words)
unfolding forms.event_of
event_fits known name.Take words = take_fits Subjective words
event_fits known name.TakeReal words = take_fits Objective words
event_fits known name.TakeFile words = take_file_fits words
event_fits known name.Release words =
    then_holds IsNumber FitsEvent (one_of spelling.spelled_label words) _ (one_holds IsNumber spelling.spelled_label label_fits words) (λ v h. h)
event_fits known name.Ask words = ask_fits known words
event_fits known name.Prepare words =
    then_holds _ FitsEvent (three_of spelling.spelled_label spelling.spelled_task spelling.spelled_label words) _
    (three_holds IsNumber IsNumber IsNumber spelling.spelled_label spelling.spelled_task spelling.spelled_label label_fits task_fits label_fits words)
    (λ v h. h)
event_fits known name.Alter words = alter_fits known words
event_fits known name.Commit words =
    then_holds IsNumber FitsEvent (one_of spelling.spelled_label words) _ (one_holds IsNumber spelling.spelled_label label_fits words) (λ v h. h)
event_fits known name.Abort words =
    then_holds IsNumber FitsEvent (one_of spelling.spelled_label words) _ (one_holds IsNumber spelling.spelled_label label_fits words) (λ v h. h)
event_fits known name.Override words = override_fits words
event_fits known name.Revert words =
    then_holds IsNumber FitsEvent (one_of spelling.spelled_task words) _ (one_holds IsNumber spelling.spelled_task task_fits words) (λ v h. h)
event_fits known name.Begin words = begin_fits words
event_fits known name.Act words =
    then_holds IsNumber FitsEvent (one_of spelling.line_number_of words) _ (one_holds IsNumber spelling.line_number_of line_fits words) (λ v h. h)
event_fits known name.Sweep words = then_holds (λ end. Unit {0}) FitsEvent (no_words words) _ (any_holds (no_words words)) (λ end h. tt)

-- ---- calls, of a task whose number fits

open_fits : (known : List NamedFile) (task : ℕ) → IsNumber task → (words : List (List ℕ)) → spelled.Holds FitsContent (calls.open_call known task words)
unfolding calls.open_call
open_fits known task t [] = tt
open_fits known task t (file ∷ []) = tt
open_fits known task t (file ∷ want ∷ []) = tt
open_fits known task t (file ∷ want ∷ descriptor ∷ []) =
    then_holds (λ (asked : ℕ × Want). IsWant asked.1) FitsContent (file_and_want known (file ∷ want ∷ [])) _ (asked_fits known (file ∷ want ∷ [])) (λ asked w.
    then_holds IsNumber FitsContent (word_of spelling.descriptor_of descriptor) _ (word_holds IsNumber spelling.descriptor_of fd_fits descriptor)
    (λ fd f. (t, w, f)))
open_fits known task t (file ∷ want ∷ descriptor ∷ more ∷ words) = tt

capset_raw_fits : (task : ℕ) → IsNumber task → (words : List (List ℕ)) → spelled.Holds FitsContent (calls.capset_raw_of task words)
unfolding calls.capset_raw_of
capset_raw_fits task t words =
    then_holds FitsData FitsContent (one_of (record_of task) words) _ (one_holds FitsData (record_of task) (record_fits task) words) (λ d h. (t, h))

raw_fits : (task : ℕ) → IsNumber task → (words : List (List ℕ)) → spelled.Holds FitsContent (calls.raw_of task words)
unfolding calls.raw_of
raw_fits task t [] = tt
raw_fits task t (called ∷ words) =
    then_holds (λ kind. Unit {0}) FitsContent (ok_or (names.id_name called) Word) _ (any_holds (ok_or (names.id_name called) Word)) (λ kind u.
    then_holds FitsCall FitsContent (id_call_of kind words) _ (call_fits kind words) (λ made c. (t, c)))

other_fits : (known : List NamedFile) (task : ℕ) → IsNumber task → (kind : OtherName) (words : List (List ℕ))
    → spelled.Holds FitsContent (calls.other_of known task kind words)
unfolding calls.other_of
other_fits known task t other.Open words = open_fits known task t words
other_fits known task t other.Close words =
    then_holds IsNumber FitsContent (one_of spelling.descriptor_of words) _ (one_holds IsNumber spelling.descriptor_of fd_fits words) (λ v h. h)
other_fits known task t other.Fcap words =
    then_holds _ FitsContent (two_of spelling.descriptor_of spelling.cap_of words) _
    (two_holds IsNumber IsNumber spelling.descriptor_of spelling.cap_of fd_fits cap_fits words) (λ v h. (t, h.0, h.1))
other_fits known task t other.Access words =
    then_holds (λ (asked : ℕ × Want). IsWant asked.1) FitsContent (file_and_want known words) _ (asked_fits known words) (λ asked w. (t, w))
other_fits known task t other.Signal words =
    then_holds IsNumber FitsContent (one_of spelling.spelled_task words) _ (one_holds IsNumber spelling.spelled_task task_fits words) (λ v h. (t, h))
other_fits known task t other.Spawn words =
    then_holds IsNumber FitsContent (one_of spelling.spelled_task words) _ (one_holds IsNumber spelling.spelled_task task_fits words) (λ v h. (t, h))
other_fits known task t other.Fork words =
    then_holds _ FitsContent (two_of spelling.spelled_task spelling.spelled_process words) _
    (two_holds IsNumber IsNumber spelling.spelled_task spelling.spelled_process task_fits process_fits words) (λ v h. (t, h.0, h.1))
other_fits known task t other.Exit words = bare_holds FitsContent words _ t
other_fits known task t other.Dumpable words =
    then_holds IsNumber FitsContent (one_of spelling.number_of words) _ (one_holds IsNumber spelling.number_of number_fits words) (λ v h. (t, h))
other_fits known task t other.Dumped words = bare_holds FitsContent words _ t
other_fits known task t other.Ptrace words =
    then_holds _ FitsContent (two_of look_mode spelling.spelled_task words) _
    (two_holds (λ mode. Unit {0}) IsNumber look_mode spelling.spelled_task any_mode task_fits words) (λ v h. (t, h.1))
other_fits known task t other.CapsetRaw words = capset_raw_fits task t words
other_fits known task t other.Raw words = raw_fits task t words

named_call_fits : (known : List NamedFile) (task : ℕ) → IsNumber task → (kind : CallName) (words : List (List ℕ))
    → spelled.Holds FitsContent (calls.call_of known task kind words)
unfolding calls.call_of
named_call_fits known task t (call.Id called) words = then_holds FitsCall FitsContent (id_call_of called words) _ (call_fits called words) (λ v h. (t, h))
named_call_fits known task t (call.Change changed) words =
    then_holds FitsChange FitsContent (change_of known changed words) _ (change_fits known changed words) (λ v h. (t, h))
named_call_fits known task t (call.Question asked) words =
    then_holds FitsQuery FitsContent (query_of known asked words) _ (query_fits known asked words) (λ v h. (t, h))
named_call_fits known task t (call.Other called) words = other_fits known task t called words
named_call_fits known task t (call.File called) words =
    then_holds FitsFileCall FitsContent (file_calls.file_call_of known called words) _ (file_call_fits known called words) (λ v h. (t, h))

content_fits : (known : List NamedFile) (task : ℕ) → IsNumber task → (words : List (List ℕ)) → spelled.Holds FitsContent (calls.content_of known task words)
unfolding calls.content_of
content_fits known task t [] = tt
content_fits known task t (word ∷ words) =
    then_holds (λ kind. Unit {0}) FitsContent (ok_or (names.call_name word) Word) _ (any_holds (ok_or (names.call_name word) Word))
    (λ kind u. named_call_fits known task t kind words)

-- ---- lines

-- a file has a name, and ids
abbrev pub FitsNamed : NamedFile → Type 0
FitsNamed file = IsTrue (spelling.is_name file.name) × FitsFile file.info

-- what is parsed of a line
abbrev pub FitsParsed : Parsed → Type 0
FitsParsed Empty = ⊤
FitsParsed (File file) = FitsNamed file
FitsParsed (parsed.Namespace number root parent) = ⊤
FitsParsed (Starts content) = FitsContent content
FitsParsed (Lane number) = ⊤
FitsParsed (Holds by content) = FitsContent content

-- the task that a line's first word may be
abbrev pub FitsForm : Form → Type 0
FitsForm form.Init = ⊤
FitsForm form.File = ⊤
FitsForm form.Namespace = ⊤
FitsForm form.Lane = ⊤
FitsForm (form.Task task) = IsNumber task
FitsForm (form.Event named) = ⊤

forms_hold : RowsHold FitsForm names.forms
unfolding names.forms
forms_hold = (tt, (tt, (tt, (tt, (tt, (tt, (tt, (tt, (tt, (tt, (tt, (tt, (tt, (tt, (tt, (tt, (tt, (tt, tt))))))))))))))))))

pub form_fits : OfAll FitsForm names.form_of
form_fits word =
    or_holds FitsForm _ _ (map_some IsNumber FitsForm (spelling.spelled_task word) form.Task (task_fits word) (λ task h. h))
    (named_fits FitsForm names.forms forms_hold word)

file_name : (name : List ℕ) → spelled.Holds (λ text. IsTrue (spelling.is_name text)) (name_of name)
file_name name = by (spelling.is_name name) refl
  where
    by : (b : Bool) → spelling.is_name name ≡ b
        → spelled.Holds (λ text. IsTrue (spelling.is_name text)) (let r : Result (List ℕ) Reason = cond b (Ok name) (Err Word) in r)
    by true is = is
    by false is = tt

info_fits : (words : List (List ℕ)) → spelled.Holds FitsFile (files.read_info words)
unfolding files.read_info
info_fits [] = tt
info_fits (kind ∷ []) = tt
info_fits (kind ∷ owner ∷ []) = tt
info_fits (kind ∷ owner ∷ group ∷ []) = tt
info_fits (kind ∷ owner ∷ group ∷ mode ∷ options) =
    then_holds _ FitsFile (three_of spelling.kind_of spelling.id_of spelling.id_of (kind ∷ owner ∷ group ∷ [])) _
    (three_holds (λ k. Unit {0}) IsId IsId spelling.kind_of spelling.id_of spelling.id_of any_kind id_fits id_fits (kind ∷ owner ∷ group ∷ [])) (λ word h.
    then_holds (λ bits. IsMode bits) FitsFile (word_of spelling.mode_of mode) _ (word_holds (λ bits. IsMode bits) spelling.mode_of mode_fits mode) (λ bits m.
    then_holds (λ option. Unit {0}) FitsFile (files.options_of options) _ (any_holds (files.options_of options))
    (λ option v. record { owner = h.1; group = h.2; mode = m })))
  where
    any : {A : Type 0} (o : Option A) → HoldsSome (λ x. Unit {0}) o
    any (Some x) = tt
    any None = tt

    any_kind : OfAll (λ k. Unit {0}) spelling.kind_of
    any_kind word = any (spelling.kind_of word)

declared_name : (words : List (List ℕ)) → spelled.Holds FitsNamed (files.declared_of words)
unfolding files.declared_of
declared_name [] = tt
declared_name (word ∷ words) =
    then_holds (λ text. IsTrue (spelling.is_name text)) _ (name_of word) _ (file_name word) (λ text h.
    then_holds FitsFile FitsNamed (files.read_info words) _ (info_fits words) (λ info i. (h, i)))

file_fits : (known : List NamedFile) (words : List (List ℕ)) → spelled.Holds FitsNamed (files.file_of known words)
unfolding files.file_of
file_fits known words =
    then_holds (λ room. Unit {0}) _ (files.has_room known) _ (any_holds (files.has_room known)) (λ room u.
    then_holds (λ count. Unit {0}) _ (files.has_count words) _ (any_holds (files.has_count words)) (λ count v. declared_name words))

pub parse_fits : (known : List NamedFile) (named : Form) → FitsForm named → (words : List (List ℕ))
    → spelled.Holds FitsParsed (forms.parse_form known named words)
unfolding forms.parse_form
parse_fits known form.Init u words =
    then_holds _ FitsParsed (five_of spelling.spelled_task spelling.spelled_process spelling.id_of spelling.id_of spelling.namespace_of words) _
    (five_holds IsNumber IsNumber IsId IsId IsNamespace spelling.spelled_task spelling.spelled_process spelling.id_of spelling.id_of spelling.namespace_of
    task_fits process_fits id_fits id_fits namespace_fits words)
    (λ v h. h)
parse_fits known form.File u words = then_holds FitsNamed FitsParsed (files.file_of known words) _ (file_fits known words) (λ file h. h)
parse_fits known form.Namespace u words =
    then_holds _ FitsParsed (three_of spelling.new_namespace_of spelling.id_of spelling.parent_of words) _
    (any_holds (three_of spelling.new_namespace_of spelling.id_of spelling.parent_of words)) (λ v h. tt)
parse_fits known form.Lane u words =
    then_holds _ FitsParsed (one_of spelling.lane_number_of words) _ (any_holds (one_of spelling.lane_number_of words)) (λ v h. tt)
parse_fits known (form.Task task) t words =
    then_holds FitsContent FitsParsed (calls.content_of known task words) _ (content_fits known task t words) (λ content h. h)
parse_fits known (form.Event named) u words = then_holds FitsEvent FitsParsed (forms.event_of known named words) _ (event_fits known named words) (λ event h. h)
