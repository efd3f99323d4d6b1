-- What is true of each line that the grammar gives: its labels are small, what it names is declared,
-- and the task that acts by it is the one that it is tested for.
use Rattle.std.proofs.Common.{◌≡◌, ℕ, ◌≤◌, ◌<◌, Bool, true, false, not, ◌&&◌, ◌==◌, nat_le, nat_lt, cond, List, [], ◌∷◌, length, Option, Some, None, is_some}
use Rattle.std.proofs.Common.{Result, Ok, Err, ok_or, codes, refl, subst, arith}
use Rattle.std.specs.List.{All, list_all}
use Rattle.std.specs.Option.{IfSome, IsSome, option_and_then}
use Rattle.std.specs.Result.{IfOk}
use Rattle.std.proofs.lemmas.Bool.Decides.{nat_tests}
use Rattle.std.proofs.lemmas.List.Elements.{All-nil, All-cons}
use Rattle.std.proofs.lemmas.List.Sums.{AllPass-from_list_all}
use Rattle.cred_ids.specs.Limits.{LAST_LANE, FILES, LAST_NUMBER}
use Rattle.cred_ids.specs.Tests.{◌>>=◌}
use Rattle.cred_event.specs.declared.event.Event.{Event}
use Rattle.cred_event.specs.declared.event.Side.{Side}
use Rattle.cred_event.specs.declared.content.Content.{Content}
use Rattle.cred_event.specs.declared.content.Content.TheVariants.{One}
use Rattle.cred_model.specs.Script.{NamedFile, Namespace, chain_in}
use Rattle.cred_record.specs.File.{IsMode}
use Rattle.cred_model.specs.Named.{files, namespaces, modes, event_modes, call_modes, AreModes, IsContentOf}
use Rattle.cred_model.specs.FileChanges.{line_changes}
use Rattle.cred_spelling.specs.declared.names.Form.{Form}
use Rattle.cred_spelling.specs.declared.names.Form.TheVariants as form
use Rattle.cred_spelling.specs.declared.names.EventName.{EventName}
use Rattle.cred_spelling.specs.declared.names.EventName.TheVariants as name
use Rattle.cred_spelling.specs.declared.names.OtherName.{OtherName}
use Rattle.cred_spelling.specs.declared.names.OtherName.TheVariants as other
use Rattle.cred_spelling.specs.declared.names.FileCallName.{FileCallName}
use Rattle.cred_spelling.specs.declared.names.FileCallName.TheVariants as file_call
use Rattle.cred_spelling.specs.declared.names.CallName.{CallName}
use Rattle.cred_spelling.specs.declared.names.CallName.TheVariants as call
use Rattle.cred_spelling.specs.declared.reason.Reason.{Reason}
use Rattle.cred_spelling.specs.declared.reason.Reason.TheVariants.{Word, Name, Byte}
use Rattle.cred_spelling.specs.declared.reason.Reason.TheVariants as reason
use Rattle.cred_spelling.specs.Names.{id_name, altered_name, call_name}
use Rattle.cred_spelling.specs.Spellings.{arg_of, bytes_of, mode_of}
use Rattle.cred_spelling.specs.Spellings.{letter, number_of, within, id_of, cap_of, spelled_label}
use Rattle.cred_spelling.specs.Spellings.{spelled_task, spelled_process, descriptor_of, line_number_of}
use Rattle.cred_spelling.specs.Spellings.{lane_number_of, namespace_of, new_namespace_of, parent_of}
use Rattle.cred_spelling.specs.Words.{word_of, no_words, one_of, two_of, three_of, five_of}
use Rattle.cred_grammar.specs.declared.forms.Parsed.{Parsed}
use Rattle.cred_grammar.specs.declared.forms.Parsed.TheVariants.{Empty, File, Starts, Lane, Holds}
use Rattle.cred_grammar.specs.declared.forms.Parsed.TheVariants as parsed
use Rattle.cred_grammar.specs.Changes.{change_of}
use Rattle.cred_script.specs.Files.{file_place}
use Rattle.cred_grammar.specs.Files.{has_room, file_at, file_of}
use Rattle.cred_grammar.specs.FileCalls.{chown_of, chmod_of, set_attr_of, file_alone, file_call_of}
use Rattle.cred_grammar.specs.Records.{record_of}
use Rattle.cred_grammar.specs.IdCalls.{id_call_of}
use Rattle.cred_grammar.specs.Modes.{look_mode}
use Rattle.cred_grammar.specs.Questions.{query_of, query_named, file_and_want}
use Rattle.cred_grammar.specs.Calls.{open_call, capset_raw_of, raw_of, other_of, call_of, content_of}
use Rattle.cred_grammar.specs.Forms.{take_of, take_file_of, ask_of, alter_of, override_of, begin_of, event_of, parse_form}
use Rattle.cred_grammar.proofs.ModeWords.{mode_is}
use Rattle.cred_script.specs.Acting.{event_actor, actor}
use Rattle.cred_names.specs.Labels.{event_labels, labels}
use Rattle.cred_names.specs.Owners.{may_name}
use Rattle.cred_grammar.specs.Reading.{Reading, may_change, has_namespaces, has_files, uses_declared, has_names, names_declared, is_apart, in_its_place, admits}
use Rattle.cred_grammar.specs.Sound.{IsTaskLine, IsOwnLine, IsParsed}

-- ---- what holds of a value, if there is one, through the steps that lead to it

record Good {A E : Type 0} (P : A → Type 0) (r : Result A E) : Type 0 where
  is : IfOk r P

after : {A B E : Type 0} (P : A → Type 0) (Q : B → Type 0) (r : Result A E) (f : A → Result B E) → Good P r → ((x : A) → P x → Good Q (f x)) → Good Q (r >>= f)
after P Q (Ok x) f good next = next x good.is
after P Q (Err e) f good next = record { is = tt }

skip : {A B E : Type 0} (Q : B → Type 0) (r : Result A E) (f : A → Result B E) → ((x : A) → Good Q (f x)) → Good Q (r >>= f)
skip Q (Ok x) f next = next x
skip Q (Err e) f next = record { is = tt }

-- what holds whatever the value is
always : {A E : Type 0} (P : Type 0) → P → (r : Result A E) → Good (λ _. P) r
always P holds (Ok x) = record { is = holds }
always P holds (Err e) = record { is = tt }

one_of_both : {A E : Type 0} (P : A → Type 0) (b : Bool) (r s : Result A E) → Good P r → Good P s → Good P (cond b r s)
one_of_both P true r s good other = good
one_of_both P false r s good other = other

tested : {E : Type 0} (b : Bool) (e : E) → Good (λ _. b ≡ true) (let r : Result (Unit {0}) E = cond b (Ok tt) (Err e) in r)
tested true e = record { is = refl }
tested false e = record { is = tt }

-- what held before a last test, and the test
and_tested : {E : Type 0} (P : Type 0) → P → (b : Bool) (e : E) → Good (λ _. P × (b ≡ true)) (let r : Result (Unit {0}) E = cond b (Ok tt) (Err e) in r)
and_tested P holds true e = record { is = (holds, refl) }
and_tested P holds false e = record { is = tt }

-- ---- labels

abbrev IsLabel : ℕ → Type 0
IsLabel label = label ≤ LAST_NUMBER

at_most : (a b : Bool) (n most : ℕ) → nat_le n most ≡ b → IfSome (cond (a && b) (Some n) None) (λ number. number ≤ most)
at_most false b n most is = tt
at_most true false n most is = tt
at_most true true n most is = grind (arith, nat_tests)

small : (b : Bool) (least most : ℕ) (o : Option ℕ) → IfSome (cond b (option_and_then (within least most) o) None) (λ number. number ≤ most)
small false least most o = tt
small true least most None = tt
small true least most (Some n) = at_most (nat_le least n) (nat_le n most) n most refl

label_small : (word : List ℕ) → IfSome (spelled_label word) IsLabel
label_small [] = tt
label_small (first ∷ digits) = small (first == letter (codes "h")) 1 LAST_NUMBER (number_of digits)

spelled_good : {A : Type 0} (P : A → Type 0) (o : Option A) → IfSome o P → Good P (ok_or o Word)
spelled_good P None holds = record { is = tt }
spelled_good P (Some x) holds = record { is = holds }

label_good : (word : List ℕ) → Good IsLabel (word_of spelled_label word)
label_good word = spelled_good IsLabel (spelled_label word) (label_small word)

one_label : (words : List (List ℕ)) → Good IsLabel (one_of spelled_label words)
one_label [] = record { is = tt }
one_label (a ∷ []) = label_good a
one_label (a ∷ b ∷ words) = record { is = tt }

-- a label and another word
label_first : {B : Type 0} (also : List ℕ → Option B) (words : List (List ℕ)) → Good (λ word. IsLabel word.0) (two_of spelled_label also words)
unfolding two_of
label_first also [] = record { is = tt }
label_first also (a ∷ []) = record { is = tt }
label_first also (a ∷ b ∷ []) = after IsLabel _ _ _ (label_good a) (λ label fits. skip _ (word_of also b) _ (λ y. record { is = fits }))
label_first also (a ∷ b ∷ c ∷ words) = record { is = tt }

-- another word and a label
label_second : {A : Type 0} (also : List ℕ → Option A) (words : List (List ℕ)) → Good (λ word. IsLabel word.1) (two_of also spelled_label words)
unfolding two_of
label_second also [] = record { is = tt }
label_second also (a ∷ []) = record { is = tt }
label_second also (a ∷ b ∷ []) = skip _ (word_of also a) _ (λ x. after IsLabel _ _ _ (label_good b) (λ label fits. record { is = fits }))
label_second also (a ∷ b ∷ c ∷ words) = record { is = tt }

-- a label, another word, and a label
label_first_and_last : {B : Type 0} (also : List ℕ → Option B) (words : List (List ℕ))
    → Good (λ word. IsLabel word.0 × IsLabel word.2) (three_of spelled_label also spelled_label words)
unfolding three_of
label_first_and_last also [] = record { is = tt }
label_first_and_last also (a ∷ []) = record { is = tt }
label_first_and_last also (a ∷ b ∷ []) = record { is = tt }
label_first_and_last also (a ∷ b ∷ c ∷ []) =
    after IsLabel _ _ _ (label_good a)
    (λ first fits. skip _ (word_of also b) _ (λ y. after IsLabel _ _ _ (label_good c) (λ last fit. record { is = (fits, fit) })))
label_first_and_last also (a ∷ b ∷ c ∷ d ∷ words) = record { is = tt }

-- ---- events

abbrev OwnEvent : Event → Type 0
OwnEvent event = All IsLabel (event_labels event) × AreModes (event_modes event)

no_modes : AreModes []
no_modes = All-nil (λ mode. IsMode mode)

none : All IsLabel []
none = All-nil IsLabel

one : (label : ℕ) → IsLabel label → All IsLabel (label ∷ [])
one label fits = All-cons IsLabel label [] fits none

-- an event of one label
of_label : (event : Event) (label : ℕ) → event_labels event ≡ label ∷ [] → event_modes event ≡ [] → IsLabel label
    → Good OwnEvent (let r : Result Event Reason = Ok event in r)
of_label event label labels_are modes_are fits = record { is = (rw labels_are (one label fits), rw modes_are no_modes) }

own_take : (side : Side) (words : List (List ℕ)) → Good OwnEvent (take_of side words)
unfolding take_of
own_take side words = after (λ word. IsLabel word.0) OwnEvent _ _ (label_first spelled_task words) (λ word fits. of_label _ word.0 refl refl fits)

own_take_file : (words : List (List ℕ)) → Good OwnEvent (take_file_of words)
unfolding take_file_of
own_take_file words = after (λ word. IsLabel word.0) OwnEvent _ _ (label_first descriptor_of words) (λ word fits. of_label _ word.0 refl refl fits)

own_ask : (files : List NamedFile) (words : List (List ℕ)) → Good OwnEvent (ask_of files words)
unfolding ask_of
own_ask files [] = record { is = tt }
own_ask files (hold ∷ []) = record { is = tt }
own_ask files (hold ∷ asked ∷ words) =
    skip OwnEvent (query_named files asked words) _ (λ query. after IsLabel OwnEvent _ _ (label_good hold) (λ label fits. of_label _ label refl refl fits))

own_alter : (files : List NamedFile) (words : List (List ℕ)) → Good OwnEvent (alter_of files words)
unfolding alter_of
own_alter files [] = record { is = tt }
own_alter files (prepared ∷ []) = record { is = tt }
own_alter files (prepared ∷ changed ∷ words) =
    skip OwnEvent (ok_or (altered_name changed) Word) _ (λ kind. skip OwnEvent (change_of files kind words) _
    (λ made. after IsLabel OwnEvent _ _ (label_good prepared) (λ label fits. of_label _ label refl refl fits)))

own_override : (words : List (List ℕ)) → Good OwnEvent (override_of words)
unfolding override_of
own_override words = after (λ word. IsLabel word.1) OwnEvent _ _ (label_second spelled_task words) (λ word fits. of_label _ word.1 refl refl fits)

own_begin : (words : List (List ℕ)) → Good OwnEvent (begin_of words)
unfolding begin_of
own_begin [] = record { is = tt }
own_begin (caller ∷ []) = record { is = tt }
own_begin (caller ∷ called ∷ words) =
    skip OwnEvent (ok_or (id_name called) Word) _
    (λ kind. skip OwnEvent (id_call_of kind words) _ (λ made. skip OwnEvent (word_of spelled_task caller) _ (λ task. record { is = (none, no_modes) })))

own_event : (files : List NamedFile) (event : EventName) (words : List (List ℕ)) → Good OwnEvent (event_of files event words)
unfolding event_of
own_event files name.Take words = own_take _ words
own_event files name.TakeReal words = own_take _ words
own_event files name.TakeFile words = own_take_file words
own_event files name.Release words = after IsLabel OwnEvent _ _ (one_label words) (λ label fits. of_label _ label refl refl fits)
own_event files name.Ask words = own_ask files words
own_event files name.Prepare words =
    after (λ word. IsLabel word.0 × IsLabel word.2) OwnEvent _ _ (label_first_and_last spelled_task words)
    (λ word fits. record { is = (All-cons IsLabel word.0 (word.2 ∷ []) fits.0 (one word.2 fits.1), no_modes) })
own_event files name.Alter words = own_alter files words
own_event files name.Commit words = after IsLabel OwnEvent _ _ (one_label words) (λ label fits. of_label _ label refl refl fits)
own_event files name.Abort words = after IsLabel OwnEvent _ _ (one_label words) (λ label fits. of_label _ label refl refl fits)
own_event files name.Override words = own_override words
own_event files name.Revert words = skip OwnEvent (one_of spelled_task words) _ (λ task. record { is = (none, no_modes) })
own_event files name.Begin words = own_begin words
own_event files name.Act words = skip OwnEvent (one_of line_number_of words) _ (λ line. record { is = (none, no_modes) })
own_event files name.Sweep words = skip OwnEvent (no_words words) _ (λ end. record { is = (none, no_modes) })

-- ---- lines

-- by this task, or by none
abbrev OwnContent : Option ℕ → Content → Type 0
OwnContent by content = All IsLabel (labels content) × IfSome (actor content) (λ task. by ≡ Some task) × AreModes (modes content)

mode_good : (word : List ℕ) → Good (λ mode. IsMode mode) (word_of mode_of word)
mode_good word = spelled_good (λ mode. IsMode mode) (mode_of word) (mode_is word)

own_open : (files : List NamedFile) (task : ℕ) (words : List (List ℕ)) → Good (OwnContent (Some task)) (open_call files task words)
unfolding open_call
own_open files task [] = record { is = tt }
own_open files task (name ∷ []) = record { is = tt }
own_open files task (name ∷ want ∷ []) = record { is = tt }
own_open files task (name ∷ want ∷ descriptor ∷ []) =
    skip (OwnContent (Some task)) (file_and_want files (name ∷ want ∷ [])) _
    (λ asked. skip (OwnContent (Some task)) (word_of descriptor_of descriptor) _ (λ fd. record { is = (none, refl, no_modes) }))
own_open files task (name ∷ want ∷ descriptor ∷ more ∷ words) = record { is = tt }

own_capset_raw : (task : ℕ) (words : List (List ℕ)) → Good (OwnContent (Some task)) (capset_raw_of task words)
unfolding capset_raw_of
own_capset_raw task words = skip (OwnContent (Some task)) (one_of (record_of task) words) _ (λ sets. record { is = (none, refl, no_modes) })

own_raw : (task : ℕ) (words : List (List ℕ)) → Good (OwnContent (Some task)) (raw_of task words)
unfolding raw_of
own_raw task [] = record { is = tt }
own_raw task (called ∷ words) =
    skip (OwnContent (Some task)) (ok_or (id_name called) Word) _
    (λ kind. skip (OwnContent (Some task)) (id_call_of kind words) _ (λ made. record { is = (none, refl, no_modes) }))

own_other : (files : List NamedFile) (task : ℕ) (called : OtherName) (words : List (List ℕ)) → Good (OwnContent (Some task)) (other_of files task called words)
unfolding other_of
own_other files task other.Open words = own_open files task words
own_other files task other.Close words = skip (OwnContent (Some task)) (one_of descriptor_of words) _ (λ fd. record { is = (none, tt, no_modes) })
own_other files task other.Fcap words = skip (OwnContent (Some task)) (two_of descriptor_of cap_of words) _ (λ word. record { is = (none, refl, no_modes) })
own_other files task other.Access words = skip (OwnContent (Some task)) (file_and_want files words) _ (λ asked. record { is = (none, refl, no_modes) })
own_other files task other.Signal words = skip (OwnContent (Some task)) (one_of spelled_task words) _ (λ to. record { is = (none, refl, no_modes) })
own_other files task other.Spawn words = skip (OwnContent (Some task)) (one_of spelled_task words) _ (λ child. record { is = (none, refl, no_modes) })
own_other files task other.Fork words =
    skip (OwnContent (Some task)) (two_of spelled_task spelled_process words) _ (λ word. record { is = (none, refl, no_modes) })
own_other files task other.Exit words = skip (OwnContent (Some task)) (no_words words) _ (λ end. record { is = (none, refl, no_modes) })
own_other files task other.Dumpable words = skip (OwnContent (Some task)) (one_of number_of words) _ (λ value. record { is = (none, refl, no_modes) })
own_other files task other.Dumped words = skip (OwnContent (Some task)) (no_words words) _ (λ end. record { is = (none, refl, no_modes) })
own_other files task other.Ptrace words = skip (OwnContent (Some task)) (two_of look_mode spelled_task words) _ (λ word. record { is = (none, refl, no_modes) })
own_other files task other.CapsetRaw words = own_capset_raw task words
own_other files task other.Raw words = own_raw task words

-- a call on a file
own_file_call : (files : List NamedFile) (called : FileCallName) (words : List (List ℕ))
    → Good (λ made. AreModes (call_modes made)) (file_call_of files called words)
unfolding file_call_of chown_of chmod_of set_attr_of file_alone
own_file_call files file_call.Chown (a ∷ b ∷ c ∷ []) =
    skip _ (file_at files a) _ (λ place. skip _ (two_of arg_of arg_of (b ∷ c ∷ [])) _ (λ ids. record { is = no_modes }))
own_file_call files file_call.Chmod (a ∷ b ∷ []) =
    skip _ (file_at files a) _ (λ place. after (λ mode. IsMode mode) _ _ _ (mode_good b)
    (λ mode fits. record { is = All-cons (λ mode. IsMode mode) mode [] fits no_modes }))
own_file_call files file_call.SetAttr (a ∷ b ∷ []) =
    skip _ (file_at files a) _ (λ place. skip _ (word_of bytes_of b) _ (λ attr. record { is = no_modes }))
own_file_call files file_call.ClearAttr (a ∷ []) = skip _ (file_at files a) _ (λ place. record { is = no_modes })
own_file_call files file_call.Stat (a ∷ []) = skip _ (file_at files a) _ (λ place. record { is = no_modes })
own_file_call files called [] = record { is = tt }
own_file_call files called words = record { is = tt }

own_call : (files : List NamedFile) (task : ℕ) (called : CallName) (words : List (List ℕ)) → Good (OwnContent (Some task)) (call_of files task called words)
unfolding call_of
own_call files task (call.Id called) words = skip (OwnContent (Some task)) (id_call_of called words) _ (λ made. record { is = (none, refl, no_modes) })
own_call files task (call.Change changed) words =
    skip (OwnContent (Some task)) (change_of files changed words) _ (λ made. record { is = (none, refl, no_modes) })
own_call files task (call.Question asked) words = skip (OwnContent (Some task)) (query_of files asked words) _ (λ query. record { is = (none, refl, no_modes) })
own_call files task (call.Other called) words = own_other files task called words
own_call files task (call.File called) words =
    after (λ made. AreModes (call_modes made)) (OwnContent (Some task)) _ _ (own_file_call files called words) (λ made fit. record { is = (none, refl, fit) })

own_content : (files : List NamedFile) (task : ℕ) (words : List (List ℕ)) → Good (OwnContent (Some task)) (content_of files task words)
unfolding content_of
own_content files task [] = record { is = tt }
own_content files task (word ∷ words) = skip (OwnContent (Some task)) (ok_or (call_name word) Word) _ (λ called. own_call files task called words)

-- what is true of a line before its names are looked up
abbrev OwnLine : List NamedFile → Parsed → Type 0
OwnLine declared Empty = Unit {0}
OwnLine declared (File file) = length declared < FILES
OwnLine declared (parsed.Namespace number root parent) = Unit {0}
OwnLine declared (Starts content) = (labels content ≡ []) × (actor content ≡ None) × (line_changes content ≡ false) × AreModes (modes content)
OwnLine declared (Lane number) = (1 ≤ number) × (number ≤ LAST_LANE)
OwnLine declared (Holds by content) = OwnContent by content

room : (declared : List NamedFile) → Good (λ _. nat_lt (length declared) FILES ≡ true) (has_room declared)
room declared = tested (nat_lt (length declared) FILES) _

own_file : (declared : List NamedFile) (words : List (List ℕ)) → Good (λ _. length declared < FILES) (file_of declared words)
unfolding file_of
own_file declared words = after _ _ _ _ (room declared) (λ end test. always _ (grind (arith, nat_tests)) _)

-- the number of a lane is one
between : (a b : Bool) (n least most : ℕ) → nat_le least n ≡ a → nat_le n most ≡ b
    → IfSome (cond (a && b) (Some n) None) (λ number. (least ≤ number) × (number ≤ most))
between false b n least most low high = tt
between true false n least most low high = tt
between true true n least most low high = (grind (arith, nat_tests), grind (arith, nat_tests))

in_range : (least most : ℕ) (o : Option ℕ) → IfSome (option_and_then (within least most) o) (λ number. (least ≤ number) × (number ≤ most))
in_range least most None = tt
in_range least most (Some n) = between (nat_le least n) (nat_le n most) n least most refl refl

one_lane : (words : List (List ℕ)) → Good (λ number. (1 ≤ number) × (number ≤ LAST_LANE)) (one_of lane_number_of words)
one_lane [] = record { is = tt }
one_lane (a ∷ []) = spelled_good _ (lane_number_of a) (in_range 1 LAST_LANE (number_of a))
one_lane (a ∷ b ∷ words) = record { is = tt }

itself : (o : Option ℕ) → IfSome o (λ task. o ≡ Some task)
itself None = tt
itself (Some task) = refl

own_form : (declared : List NamedFile) (named : Form) (words : List (List ℕ)) → Good (OwnLine declared) (parse_form declared named words)
unfolding parse_form
own_form declared form.Init words =
    skip _ (five_of spelled_task spelled_process id_of id_of namespace_of words) _ (λ word. record { is = (refl, refl, refl, no_modes) })
own_form declared form.File words = after _ _ _ _ (own_file declared words) (λ file few. record { is = few })
own_form declared form.Namespace words = skip _ (three_of new_namespace_of id_of parent_of words) _ (λ word. record { is = tt })
own_form declared form.Lane words = after _ _ _ _ (one_lane words) (λ number range. record { is = range })
own_form declared (form.Task task) words = after _ _ _ _ (own_content declared task words) (λ content own. record { is = own })
own_form declared (form.Event named) words =
    after _ _ _ _ (own_event declared named words) (λ event own. record { is = (own.0, itself (event_actor event), own.1) })

-- ---- names

both : (a b : Bool) → (a && b) ≡ true → (a ≡ true) × (b ≡ true)
both true b h = (refl, h)
both false b h = absurd (cc)

no_place : (o : Option ℕ) → not (is_some o) ≡ true → o ≡ None
no_place None h = refl
no_place (Some place) h = absurd (cc)

all_declared : (declared : List Namespace) (numbers : List ℕ) → list_all (λ number. is_some (chain_in declared number)) numbers ≡ true
    → All (λ number. IsSome (chain_in declared number)) numbers
all_declared declared numbers h = AllPass-from_list_all (λ number. is_some (chain_in declared number)) numbers h

all_among : (count : ℕ) (places : List ℕ) → list_all (λ file. nat_lt file count) places ≡ true → All (λ file. file < count) places
all_among count places h k d inside = let test = AllPass-from_list_all (λ file. nat_lt file count) places h k d inside in grind (arith, nat_tests)

declares : (reading : Reading) (content : Content) → uses_declared reading content ≡ true → AreModes (modes content)
    → IsContentOf (length reading.files) reading.namespaces content
declares reading content h fit =
    let parts = both (has_namespaces reading.namespaces content) (has_files reading.files content) h in
    record {
      files = all_among (length reading.files) (files content) parts.1;
      namespaces = all_declared reading.namespaces (namespaces content) parts.0;
      modes = fit;
    }

parsed_line : (reading : Reading) (line : Parsed) → OwnLine reading.files line → (has_names reading line ≡ true) × (is_apart reading line ≡ true)
    → IsParsed reading line
parsed_line reading Empty own tests = tt
parsed_line reading (File file) own tests = (own, no_place (file_place reading.files file.name) tests.0)
parsed_line reading (parsed.Namespace number root parent) own tests = (both (is_some (chain_in reading.namespaces parent)) _ tests.0).0
parsed_line reading (Starts content) own tests = record { labels = own.0; actor = own.1; changes = own.2; named = declares reading content tests.0 own.3 }
parsed_line reading (Lane number) own tests = own
parsed_line reading (Holds by content) own tests =
    let parts = both (may_change reading.lanes content) (may_name reading.lanes by content) tests.1 in
    record { labels = own.0; actor = own.1; named = declares reading content tests.0 own.2; fixed = parts.0; apart = parts.1 }

admitted : (reading : Reading) (line : Parsed) → Good (λ _. (has_names reading line ≡ true) × (is_apart reading line ≡ true)) (admits reading line)
admitted reading line =
    skip _ (in_its_place reading line) _ (λ order. after _ _ (names_declared reading line) _ (tested (has_names reading line) Name)
    (λ end names. and_tested (has_names reading line ≡ true) names (is_apart reading line) reason.Lane))

admitted_is : (reading : Reading) (line : Parsed) → admits reading line ≡ Ok tt → (has_names reading line ≡ true) × (is_apart reading line ≡ true)
admitted_is reading line fits =
    subst (λ (r : Result (Unit {0}) Reason). IfOk r (λ _. (has_names reading line ≡ true) × (is_apart reading line ≡ true))) fits (admitted reading line).is

-- what a call of the task holds, whatever is declared
pub call_own : (declared : List NamedFile) (task : ℕ) (words : List (List ℕ)) (content : Content) → content_of declared task words ≡ Ok content
    → IsOwnLine (Some task) content
call_own declared task words content is = subst (λ (r : Result Content Reason). IfOk r (OwnContent (Some task))) is (own_content declared task words).is

pub event_own : (declared : List NamedFile) (named : EventName) (words : List (List ℕ)) (event : Event) → event_of declared named words ≡ Ok event
    → IsOwnLine (event_actor event) (One event)
event_own declared named words event is =
    let own = subst (λ (r : Result Event Reason). IfOk r OwnEvent) is (own_event declared named words).is in (own.0, itself (event_actor event), own.1)

-- what may stand after what was read is sound
pub held : (reading : Reading) (by : Option ℕ) (content : Content) → IsOwnLine by content → admits reading (Holds by content) ≡ Ok tt
    → IsTaskLine reading by content
held reading by content own fits = parsed_line reading (Holds by content) own (admitted_is reading (Holds by content) fits)

pub form_sound : (reading : Reading) (named : Form) (words : List (List ℕ)) (line : Parsed) → parse_form reading.files named words ≡ Ok line
    → admits reading line ≡ Ok tt → IsParsed reading line
form_sound reading named words line is fits =
    parsed_line reading line (subst (λ (r : Result Parsed Reason). IfOk r (OwnLine reading.files)) is (own_form reading.files named words).is)
    (admitted_is reading line fits)
