-- Events that were printed, read back.
use Rattle.std.proofs.Common.{◌≡◌, ℕ, List, [], ◌∷◌, ◌++◌, All, Some, None, codes, refl, append_assoc, decimal}
use Rattle.std.proofs.lemmas.List.{append-nil}
use Rattle.hex.specs.Hex.{encode_lower}
use Rattle.cred_ids.specs.declared.arg.Arg.{Arg}
use Rattle.cred_record.specs.declared.want.Want.{Want}
use Rattle.cred_record.specs.declared.id_call.IdCall.{IdCall}
use Rattle.cred_event.specs.declared.event.Side.TheVariants.{Subjective, Objective}
use Rattle.cred_record.specs.declared.mode.PtraceMode.TheVariants.{Fs, Real}
use Rattle.cred_event.specs.declared.event.Change.{Change}
use Rattle.cred_event.specs.declared.event.Query.{Query}
use Rattle.cred_event.specs.declared.event.Event.{Event}
use Rattle.cred_event.specs.declared.event.Event.TheVariants as event
use Rattle.cred_model.specs.Named.{query_files, change_files, event_files}
use Rattle.cred_model.specs.Script.{Script}
use Rattle.cred_spelling.specs.Words as words
use Rattle.cred_grammar.specs.FileCalls as file_calls
use Rattle.cred_grammar.specs.Modes as modes
use Rattle.cred_report.specs.Questions.{file_text, want_text}
use Rattle.cred_report.specs.Events.{event_text}
use Rattle.cred_reader.specs.Events as spec
use Rattle.cred_reader.specs.Fits.{IsFile, FitsEvent}
use Rattle.cred_reader.proofs.ReadBack.{IsBack, alone, bare, with_word, with_two, with_three}
use Rattle.cred_reader.proofs.Words.{spaced}
use Rattle.cred_reader.proofs.Numbers.{long_number, number_back, id_number, id_back, decimal_inner, decimal_plain}
use Rattle.cred_reader.proofs.WordsBack.{arg_word, arg_spaced, arg_back, arg_plain, want_back, want_plain, file_back, file_plain, ns_number, namespace_back}
use Rattle.cred_reader.proofs.FileWordsBack.{mode_word, mode_spaced, mode_back, mode_plain, attr_back, attr_plain}
use Rattle.cred_reader.proofs.QueriesBack.{query_back}
use Rattle.cred_reader.proofs.ChangesBack.{change_back}
use Rattle.cred_reader.proofs.CallsBack.{call_back}

-- the event's text is read as the event
abbrev pub EventBack : Script → Event → Type 0
EventBack script event =
    IsBack (event_text script event) (λ first rest. spec.read_event script.files (first ∷ rest)) event

init_back : (script : Script) (task : ℕ) (process : ℕ) (user : ℕ) (group : ℕ) (ns : ℕ) → FitsEvent (event.Init task process user group ns)
    → EventBack script (event.Init task process user group ns)
unfolding spec.read_event spec.event_names spec.event_named spec.task_event spec.init_of words.two_of words.three_of words.five_of
init_back script task process user group ns fits = record {
  first = codes "init";
  rest = (codes "t" ++ decimal task) ∷ (codes "p" ++ decimal process) ∷ decimal user ∷ decimal group ∷ (codes "n" ++ decimal ns) ∷ [];
  spaced = simp (append_assoc, append-nil);
  plain =
      rw (
        decimal_inner task (long_number task fits.0),
        decimal_inner process (long_number process fits.1),
        decimal_plain user
            (long_number user (id_number user fits.2)),
        decimal_plain group (long_number group (id_number group fits.3)),
        decimal_inner ns
            (long_number ns (ns_number ns fits.4)),
      )
      refl;
  read = rw (number_back task fits.0, number_back process fits.1, id_back user fits.2, id_back group fits.3, namespace_back ns fits.4) refl;
}

take_back : (script : Script) (label : ℕ) (task : ℕ) → FitsEvent (event.Take label task Subjective)
    → EventBack script (event.Take label task Subjective)
unfolding spec.read_event spec.event_names spec.event_named spec.label_event spec.read_take words.two_of
take_back script label task fits =
    with_two (codes "take") (codes "h" ++ decimal label) (codes "t" ++ decimal task) (simp (append_assoc, append-nil))
    refl (rw (decimal_inner label (long_number label fits.0)) refl) (rw (decimal_inner task (long_number task fits.1)) refl)
    (rw (number_back label fits.0, number_back task fits.1) refl)

takereal_back : (script : Script) (label : ℕ) (task : ℕ) → FitsEvent (event.Take label task Objective)
    → EventBack script (event.Take label task Objective)
unfolding spec.read_event spec.event_names spec.event_named spec.label_event spec.read_take words.two_of
takereal_back script label task fits =
    with_two (codes "takereal") (codes "h" ++ decimal label) (codes "t" ++ decimal task) (simp (append_assoc, append-nil))
    refl (rw (decimal_inner label (long_number label fits.0)) refl) (rw (decimal_inner task (long_number task fits.1)) refl)
    (rw (number_back label fits.0, number_back task fits.1) refl)

takefile_back : (script : Script) (label : ℕ) (fd : ℕ) → FitsEvent (event.TakeFile label fd)
    → EventBack script (event.TakeFile label fd)
unfolding spec.read_event spec.event_names spec.event_named spec.label_event words.two_of
takefile_back script label fd fits =
    with_two (codes "takefile") (codes "h" ++ decimal label) (codes "f" ++ decimal fd) (simp (append_assoc, append-nil))
    refl (rw (decimal_inner label (long_number label fits.0)) refl) (rw (decimal_inner fd (long_number fd fits.1)) refl)
    (rw (number_back label fits.0, number_back fd fits.1) refl)

release_back : (script : Script) (label : ℕ) → FitsEvent (event.Release label)
    → EventBack script (event.Release label)
unfolding spec.read_event spec.event_names spec.event_named spec.label_event
release_back script label fits =
    with_word (codes "drop") (codes "h" ++ decimal label)
    refl (rw (decimal_inner label (long_number label fits)) refl) (rw (number_back label fits) refl)

ask_back : (script : Script) (label : ℕ) (query : Query) → FitsEvent (event.Ask label query) → All (IsFile script) (query_files query)
    → EventBack script (event.Ask label query)
unfolding spec.read_event spec.event_names spec.event_named spec.label_event spec.read_ask
ask_back script label query fits own =
    let back = query_back script query fits.1 own in
    record {
      first = codes "ask";
      rest = (codes "h" ++ decimal label) ∷ back.first ∷ back.rest;
      spaced = let e = back.spaced in simp append_assoc (cc);
      plain = rw (decimal_inner label (long_number label fits.0)) back.plain;
      read = rw (number_back label fits.0, back.read) refl;
    }

signal_back : (script : Script) (from : ℕ) (hold : ℕ) (to : ℕ) (target : ℕ) → FitsEvent (event.Signal from hold to target)
    → EventBack script (event.Signal from hold to target)
unfolding spec.read_event spec.event_names spec.event_named spec.task_event spec.signal_of words.two_of
signal_back script from hold to target fits = record {
  first = codes "signal";
  rest = (codes "t" ++ decimal from) ∷ (codes "h" ++ decimal hold) ∷ (codes "t" ++ decimal to) ∷ (codes "h" ++ decimal target) ∷ [];
  spaced = simp (append_assoc, append-nil);
  plain =
      rw (
        decimal_inner from (long_number from fits.0),
        decimal_inner hold (long_number hold fits.1),
        decimal_inner to (long_number to fits.2),
        decimal_inner
            target (long_number target fits.3),
      )
      refl;
  read = rw (number_back from fits.0, number_back hold fits.1, number_back to fits.2, number_back target fits.3) refl;
}

prepare_back : (script : Script) (label : ℕ) (task : ℕ) (hold : ℕ) → FitsEvent (event.Prepare label task hold)
    → EventBack script (event.Prepare label task hold)
unfolding spec.read_event spec.event_names spec.event_named spec.label_event words.three_of
prepare_back script label task hold fits =
    with_three (codes "prepare") (codes "h" ++ decimal label) (codes "t" ++ decimal task) (codes "h" ++ decimal hold)
    (simp (append_assoc, append-nil))
    refl (rw (decimal_inner label (long_number label fits.0)) refl) (rw (decimal_inner task (long_number task fits.1)) refl)
    (rw (decimal_inner hold (long_number hold fits.2)) refl)
    (rw (number_back label fits.0, number_back task fits.1, number_back hold fits.2) refl)

alter_back : (script : Script) (label : ℕ) (change : Change) → FitsEvent (event.Alter label change) → All (IsFile script) (change_files change)
    → EventBack script (event.Alter label change)
unfolding spec.read_event spec.event_names spec.event_named spec.label_event spec.read_alter
alter_back script label change fits own =
    let back = change_back script change fits.1 own in
    record {
      first = codes "change";
      rest = (codes "h" ++ decimal label) ∷ back.first ∷ back.rest;
      spaced = let e = back.spaced in simp append_assoc (cc);
      plain = rw (decimal_inner label (long_number label fits.0)) back.plain;
      read = rw (number_back label fits.0, back.read) refl;
    }

commit_back : (script : Script) (label : ℕ) → FitsEvent (event.Commit label)
    → EventBack script (event.Commit label)
unfolding spec.read_event spec.event_names spec.event_named spec.label_event
commit_back script label fits =
    with_word (codes "commit") (codes "h" ++ decimal label)
    refl (rw (decimal_inner label (long_number label fits)) refl) (rw (number_back label fits) refl)

abort_back : (script : Script) (label : ℕ) → FitsEvent (event.Abort label)
    → EventBack script (event.Abort label)
unfolding spec.read_event spec.event_names spec.event_named spec.label_event
abort_back script label fits =
    with_word (codes "abort") (codes "h" ++ decimal label)
    refl (rw (decimal_inner label (long_number label fits)) refl) (rw (number_back label fits) refl)

override_back : (script : Script) (task : ℕ) (label : ℕ) → FitsEvent (event.Override task label)
    → EventBack script (event.Override task label)
unfolding spec.read_event spec.event_names spec.event_named spec.task_event words.two_of
override_back script task label fits =
    with_two (codes "override") (codes "t" ++ decimal task) (codes "h" ++ decimal label) (simp (append_assoc, append-nil))
    refl (rw (decimal_inner task (long_number task fits.0)) refl) (rw (decimal_inner label (long_number label fits.1)) refl)
    (rw (number_back task fits.0, number_back label fits.1) refl)

revert_back : (script : Script) (task : ℕ) → FitsEvent (event.Revert task)
    → EventBack script (event.Revert task)
unfolding spec.read_event spec.event_names spec.event_named spec.task_event
revert_back script task fits =
    with_word (codes "revert") (codes "t" ++ decimal task)
    refl (rw (decimal_inner task (long_number task fits)) refl) (rw (number_back task fits) refl)

begin_back : (script : Script) (task : ℕ) (call : IdCall) → FitsEvent (event.Begin task call)
    → EventBack script (event.Begin task call)
unfolding spec.read_event spec.event_names spec.event_named spec.task_event spec.read_begin
begin_back script task call fits =
    let back = call_back script call fits.1 in
    record {
      first = codes "begin";
      rest = (codes "t" ++ decimal task) ∷ back.first ∷ back.rest;
      spaced = let e = back.spaced in simp append_assoc (cc);
      plain = rw (decimal_inner task (long_number task fits.0)) back.plain;
      read = rw (number_back task fits.0, back.read) refl;
    }

act_back : (script : Script) (broadcast : ℕ) → FitsEvent (event.Act broadcast)
    → EventBack script (event.Act broadcast)
unfolding spec.read_event spec.event_names spec.event_named
act_back script broadcast fits =
    with_word (codes "act") (decimal broadcast) refl (decimal_plain broadcast (long_number broadcast fits)) (rw (number_back broadcast fits) refl)

open_words : (hold file want fd : List ℕ)
    → 32 ∷ (codes "open h" ++ hold ++ codes " " ++ file ++ codes " " ++ want ++ codes " f" ++ fd)
    ≡ spaced (codes "open" ∷ (codes "h" ++ hold) ∷ file ∷ want ∷ (codes "f" ++ fd) ∷ [])
open_words hold file want fd = simp (append_assoc, append-nil)

open_back : (script : Script) (hold : ℕ) (file : ℕ) (want : Want) (fd : ℕ) → FitsEvent (event.OpenFile hold file want fd) → IsFile script file
    → EventBack script (event.OpenFile hold file want fd)
unfolding spec.read_event spec.event_names spec.event_named spec.label_event spec.read_open words.two_of
open_back script hold file want fd fits own = record {
  first = codes "open";
  rest = (codes "h" ++ decimal hold) ∷ (file_text script file) ∷ (want_text want) ∷ (codes "f" ++ decimal fd) ∷ [];
  spaced = open_words (decimal hold) (file_text script file) (want_text want) (decimal fd);
  plain = rw (decimal_inner hold (long_number hold fits.0), file_plain script file own, want_plain want fits.1, decimal_inner fd (long_number fd fits.2)) refl;
  read = rw (number_back hold fits.0, file_back script file own, want_back want fits.1, number_back fd fits.2) refl;
}

close_back : (script : Script) (fd : ℕ) → FitsEvent (event.CloseFile fd)
    → EventBack script (event.CloseFile fd)
unfolding spec.read_event spec.event_names spec.event_named
close_back script fd fits =
    with_word (codes "close") (codes "f" ++ decimal fd) refl (rw (decimal_inner fd (long_number fd fits)) refl) (rw (number_back fd fits) refl)

spawn_back : (script : Script) (task : ℕ) (child : ℕ) → FitsEvent (event.Spawn task child)
    → EventBack script (event.Spawn task child)
unfolding spec.read_event spec.event_names spec.event_named spec.task_event words.two_of
spawn_back script task child fits =
    with_two (codes "spawn") (codes "t" ++ decimal task) (codes "t" ++ decimal child) (simp (append_assoc, append-nil))
    refl (rw (decimal_inner task (long_number task fits.0)) refl) (rw (decimal_inner child (long_number child fits.1)) refl)
    (rw (number_back task fits.0, number_back child fits.1) refl)

fork_back : (script : Script) (task : ℕ) (child : ℕ) (process : ℕ) → FitsEvent (event.Fork task child process)
    → EventBack script (event.Fork task child process)
unfolding spec.read_event spec.event_names spec.event_named spec.task_event words.three_of
fork_back script task child process fits =
    with_three (codes "fork") (codes "t" ++ decimal task) (codes "t" ++ decimal child) (codes "p" ++ decimal process)
    (simp (append_assoc, append-nil))
    refl (rw (decimal_inner task (long_number task fits.0)) refl) (rw (decimal_inner child (long_number child fits.1)) refl)
    (rw (decimal_inner process (long_number process fits.2)) refl)
    (rw (number_back task fits.0, number_back child fits.1, number_back process fits.2) refl)

exit_back : (script : Script) (task : ℕ) → FitsEvent (event.Exit task)
    → EventBack script (event.Exit task)
unfolding spec.read_event spec.event_names spec.event_named spec.task_event
exit_back script task fits =
    with_word (codes "exit") (codes "t" ++ decimal task) refl (rw (decimal_inner task (long_number task fits)) refl) (rw (number_back task fits) refl)

sweep_back : (script : Script) → FitsEvent (event.Sweep)
    → EventBack script (event.Sweep)
unfolding spec.read_event spec.event_names spec.event_named
sweep_back script fits = bare (codes "sweep") refl refl

dumpable_back : (script : Script) (task : ℕ) (value : ℕ) → FitsEvent (event.Dumpable task value)
    → EventBack script (event.Dumpable task value)
unfolding spec.read_event spec.event_names spec.event_named spec.task_event words.two_of
dumpable_back script task value fits =
    with_two (codes "dumpable") (codes "t" ++ decimal task) (decimal value) (simp (append_assoc, append-nil))
    refl (rw (decimal_inner task (long_number task fits.0)) refl) (decimal_plain value (long_number value fits.1))
    (rw (number_back task fits.0, number_back value fits.1) refl)

dumped_back : (script : Script) (task : ℕ) → FitsEvent (event.Dumped task)
    → EventBack script (event.Dumped task)
unfolding spec.read_event spec.event_names spec.event_named spec.task_event
dumped_back script task fits =
    with_word (codes "dumped") (codes "t" ++ decimal task) refl (rw (decimal_inner task (long_number task fits)) refl) (rw (number_back task fits) refl)

ptrace_fs_back : (script : Script) (from : ℕ) (hold : ℕ) (to : ℕ) (target : ℕ) → FitsEvent (event.Ptrace from hold to target Fs)
    → EventBack script (event.Ptrace from hold to target Fs)
unfolding spec.read_event spec.event_names spec.event_named spec.ptrace_of modes.look_modes words.two_of
ptrace_fs_back script from hold to target fits = record {
  first = codes "ptrace";
  rest = codes "fs" ∷ (codes "t" ++ decimal from) ∷ (codes "h" ++ decimal hold) ∷ (codes "t" ++ decimal to) ∷ (codes "h" ++ decimal target) ∷ [];
  spaced = simp (append_assoc, append-nil);
  plain =
      rw (
        decimal_inner from (long_number from fits.0),
        decimal_inner hold (long_number hold fits.1),
        decimal_inner to (long_number to fits.2),
        decimal_inner
            target (long_number target fits.3),
      )
      refl;
  read = rw (number_back from fits.0, number_back hold fits.1, number_back to fits.2, number_back target fits.3) refl;
}

ptrace_real_back : (script : Script) (from : ℕ) (hold : ℕ) (to : ℕ) (target : ℕ) → FitsEvent (event.Ptrace from hold to target Real)
    → EventBack script (event.Ptrace from hold to target Real)
unfolding spec.read_event spec.event_names spec.event_named spec.ptrace_of modes.look_modes words.two_of
ptrace_real_back script from hold to target fits = record {
  first = codes "ptrace";
  rest = codes "real" ∷ (codes "t" ++ decimal from) ∷ (codes "h" ++ decimal hold) ∷ (codes "t" ++ decimal to) ∷ (codes "h" ++ decimal target) ∷ [];
  spaced = simp (append_assoc, append-nil);
  plain =
      rw (
        decimal_inner from (long_number from fits.0),
        decimal_inner hold (long_number hold fits.1),
        decimal_inner to (long_number to fits.2),
        decimal_inner
            target (long_number target fits.3),
      )
      refl;
  read = rw (number_back from fits.0, number_back hold fits.1, number_back to fits.2, number_back target fits.3) refl;
}

-- the words of a call on a file, which the hold decides
call_words : (name hold file : List ℕ) → 32 ∷ (name ++ codes " h" ++ hold ++ codes " " ++ file) ≡ spaced (name ∷ (codes "h" ++ hold) ∷ file ∷ [])
call_words name hold file = simp (append_assoc, append-nil)

chmod_words : (hold file mode : List ℕ)
    → 32 ∷ (codes "chmod h" ++ hold ++ codes " " ++ file ++ 32 ∷ mode) ≡ spaced (codes "chmod" ∷ (codes "h" ++ hold) ∷ file ∷ mode ∷ [])
chmod_words hold file mode = simp (append_assoc, append-nil)

attr_words : (hold file digits : List ℕ)
    → 32 ∷ (codes "setattr h" ++ hold ++ codes " " ++ file ++ codes " " ++ digits) ≡ spaced (codes "setattr" ∷ (codes "h" ++ hold) ∷ file ∷ digits ∷ [])
attr_words hold file digits = simp (append_assoc, append-nil)

chown_words : (hold file owner group : List ℕ)
    → 32 ∷ (codes "chown h" ++ hold ++ codes " " ++ file ++ (32 ∷ owner) ++ (32 ∷ group))
    ≡ spaced (codes "chown" ∷ (codes "h" ++ hold) ∷ file ∷ owner ∷ group ∷ [])
chown_words hold file owner group = simp (append_assoc, append-nil)

chown_back : (script : Script) (hold : ℕ) (file : ℕ) (owner : Arg) (group : Arg) → FitsEvent (event.Chown hold file owner group) → IsFile script file
    → EventBack script (event.Chown hold file owner group)
unfolding spec.read_event spec.event_names spec.event_named spec.file_event file_calls.file_call_of file_calls.chown_of words.two_of
chown_back script hold file owner group fits own = record {
  first = codes "chown";
  rest = (codes "h" ++ decimal hold) ∷ (file_text script file) ∷ (arg_word owner) ∷ (arg_word group) ∷ [];
  spaced = rw (arg_spaced owner, arg_spaced group) (chown_words (decimal hold) (file_text script file) (arg_word owner) (arg_word group));
  plain = rw (decimal_inner hold (long_number hold fits.0), file_plain script file own, arg_plain owner fits.1, arg_plain group fits.2) refl;
  read = rw (number_back hold fits.0, file_back script file own, arg_back owner fits.1, arg_back group fits.2) refl;
}

chmod_back : (script : Script) (hold : ℕ) (file : ℕ) (mode : ℕ) → FitsEvent (event.Chmod hold file mode) → IsFile script file
    → EventBack script (event.Chmod hold file mode)
unfolding spec.read_event spec.event_names spec.event_named spec.file_event file_calls.file_call_of file_calls.chmod_of
chmod_back script hold file mode fits own =
    with_three (codes "chmod") (codes "h" ++ decimal hold) (file_text script file) (mode_word mode)
    (rw (mode_spaced mode) (chmod_words (decimal hold) (file_text script file) (mode_word mode)))
    refl (rw (decimal_inner hold (long_number hold fits.0)) refl) (file_plain script file own) (mode_plain mode)
    (rw (number_back hold fits.0, file_back script file own, mode_back mode fits.1) refl)

setattr_back : (script : Script) (hold : ℕ) (file : ℕ) (bytes : List ℕ) → FitsEvent (event.SetAttr hold file (Some bytes)) → IsFile script file
    → EventBack script (event.SetAttr hold file (Some bytes))
unfolding spec.read_event spec.event_names spec.event_named spec.file_event file_calls.file_call_of file_calls.set_attr_of
setattr_back script hold file bytes fits own =
    with_three (codes "setattr") (codes "h" ++ decimal hold) (file_text script file) (encode_lower bytes)
    (attr_words (decimal hold) (file_text script file) (encode_lower bytes))
    refl (rw (decimal_inner hold (long_number hold fits.0)) refl) (file_plain script file own) (attr_plain bytes fits.1)
    (rw (number_back hold fits.0, file_back script file own, attr_back bytes fits.1) refl)

clearattr_back : (script : Script) (hold : ℕ) (file : ℕ) → FitsEvent (event.SetAttr hold file None) → IsFile script file
    → EventBack script (event.SetAttr hold file None)
unfolding spec.read_event spec.event_names spec.event_named spec.file_event file_calls.file_call_of file_calls.file_alone
clearattr_back script hold file fits own =
    with_two (codes "clearattr") (codes "h" ++ decimal hold) (file_text script file)
    (call_words (codes "clearattr") (decimal hold) (file_text script file))
    refl (rw (decimal_inner hold (long_number hold fits.0)) refl) (file_plain script file own)
    (rw (number_back hold fits.0, file_back script file own) refl)

stat_back : (script : Script) (hold : ℕ) (file : ℕ) → FitsEvent (event.Stat hold file) → IsFile script file
    → EventBack script (event.Stat hold file)
unfolding spec.read_event spec.event_names spec.event_named spec.file_event file_calls.file_call_of file_calls.file_alone
stat_back script hold file fits own =
    with_two (codes "stat") (codes "h" ++ decimal hold) (file_text script file)
    (call_words (codes "stat") (decimal hold) (file_text script file))
    refl (rw (decimal_inner hold (long_number hold fits)) refl) (file_plain script file own)
    (rw (number_back hold fits, file_back script file own) refl)

raw_back : (script : Script) (task : ℕ) (call : IdCall) → FitsEvent (event.Raw task call)
    → EventBack script (event.Raw task call)
unfolding spec.read_event spec.event_names spec.event_named spec.task_event spec.read_raw
raw_back script task call fits =
    let back = call_back script call fits.1 in
    record {
      first = codes "raw";
      rest = (codes "t" ++ decimal task) ∷ back.first ∷ back.rest;
      spaced = let e = back.spaced in simp append_assoc (cc);
      plain = rw (decimal_inner task (long_number task fits.0)) back.plain;
      read = rw (number_back task fits.0, back.read) refl;
    }

pub event_back : (script : Script) (event : Event) → FitsEvent event → All (IsFile script) (event_files event) → EventBack script event
event_back script (event.Init task process user group ns) fits own = init_back script task process user group ns fits
event_back script (event.Take label task Subjective) fits own = take_back script label task fits
event_back script (event.Take label task Objective) fits own = takereal_back script label task fits
event_back script (event.TakeFile label fd) fits own = takefile_back script label fd fits
event_back script (event.Release label) fits own = release_back script label fits
event_back script (event.Ask label query) fits own = ask_back script label query fits own
event_back script (event.Signal from hold to target) fits own = signal_back script from hold to target fits
event_back script (event.Prepare label task hold) fits own = prepare_back script label task hold fits
event_back script (event.Alter label change) fits own = alter_back script label change fits own
event_back script (event.Commit label) fits own = commit_back script label fits
event_back script (event.Abort label) fits own = abort_back script label fits
event_back script (event.Override task label) fits own = override_back script task label fits
event_back script (event.Revert task) fits own = revert_back script task fits
event_back script (event.Begin task call) fits own = begin_back script task call fits
event_back script (event.Act broadcast) fits own = act_back script broadcast fits
event_back script (event.OpenFile hold file want fd) fits own = open_back script hold file want fd fits (alone (IsFile script) file own)
event_back script (event.CloseFile fd) fits own = close_back script fd fits
event_back script (event.Spawn task child) fits own = spawn_back script task child fits
event_back script (event.Fork task child process) fits own = fork_back script task child process fits
event_back script (event.Exit task) fits own = exit_back script task fits
event_back script event.Sweep fits own = sweep_back script fits
event_back script (event.Dumpable task value) fits own = dumpable_back script task value fits
event_back script (event.Dumped task) fits own = dumped_back script task fits
event_back script (event.Ptrace from hold to target Fs) fits own = ptrace_fs_back script from hold to target fits
event_back script (event.Ptrace from hold to target Real) fits own = ptrace_real_back script from hold to target fits
event_back script (event.Chown hold file owner group) fits own = chown_back script hold file owner group fits (alone (IsFile script) file own)
event_back script (event.Chmod hold file mode) fits own = chmod_back script hold file mode fits (alone (IsFile script) file own)
event_back script (event.SetAttr hold file (Some bytes)) fits own = setattr_back script hold file bytes fits (alone (IsFile script) file own)
event_back script (event.SetAttr hold file None) fits own = clearattr_back script hold file fits (alone (IsFile script) file own)
event_back script (event.Stat hold file) fits own = stat_back script hold file fits (alone (IsFile script) file own)
event_back script (event.Raw task call) fits own = raw_back script task call fits
