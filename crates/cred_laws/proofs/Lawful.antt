-- Every journal is lawful.
use Rattle.std.proofs.Common.{◌≡◌, ◌≢◌, ℕ, ◌+◌, ◌<◌, ◌≤◌, inl, inr, zero, suc, List, ◌++◌, length, take, drop, slice_get, Option, Some, None, true, false, refl}
use Rattle.std.proofs.Common.{sym, ap, ◌∙◌, subst, arith}
use Rattle.std.specs.List.{All}
use Rattle.std.specs.Option.{IfSome, option_map}
use Rattle.std.proofs.lemmas.Bool.{cases_lt}
use Rattle.std.proofs.lemmas.List.{take_all, take-take, take-append-drop, get_or-drop, get_or-take, length-drop, length-take}
use Rattle.std.proofs.lemmas.Option.{slice_get-get_or}
use Rattle.cred_record.specs.Credential.{Credential}
use Rattle.cred_ids.specs.declared.arg.Arg.{Arg}
use Rattle.cred_record.specs.File.{File}
use Rattle.cred_rules.specs.Files.{strips}
use Rattle.cred_record.specs.declared.gains.Gains.{Gains}
use Rattle.cred_record.specs.declared.id_call.IdCall.{IdCall}
use Rattle.cred_event.specs.declared.answer.Answer.{Answer}
use Rattle.cred_event.specs.declared.answer.Answer.TheVariants.{Done, Executed, Sealed}
use Rattle.cred_event.specs.declared.event.Change.TheVariants.{Exec}
use Rattle.cred_event.specs.declared.event.Event.TheVariants.{Release, CloseFile, Chown, Raw}
use Rattle.cred_record.specs.declared.mode.PtraceMode.{PtraceMode}
use Rattle.cred_event.specs.declared.entry.Entry.{Entry}
use Rattle.cred_model.specs.Script.{Script}
use Rattle.cred_model.specs.State.{State, SealedCred, Task, Numbered, numbered, task_of, current_of, opener_of, held_by}
use Rattle.cred_model.specs.Dumpable.{is_dumpable, differs}
use Rattle.cred_model.specs.Step.{step}
use Rattle.cred_model.specs.Journal.{replay, IsAnswered}
use Rattle.cred_model.proofs.Lists.{slice_get_at}
use Rattle.cred_model.proofs.Numbers.{numbered_stays}
use Rattle.cred_laws.specs.Slots.{IsUnusedSlot}
use Rattle.cred_sound.proofs.Sound.{sound_after}
use Rattle.cred_laws.specs.Slots.{IsUnusedSlot}
use Rattle.cred_laws.specs.Held.{preparation_of, ends_label}
use Rattle.cred_laws.specs.Overrides.{IsOverriding}
use Rattle.cred_laws.specs.Permitted.{IsCreatedWith}
use Rattle.cred_laws.specs.Permitted as permitted
use Rattle.cred_laws.specs.Execve.{IsExecve}
use Rattle.cred_laws.specs.Files.{IsFileOf, HasStripped, resets}
use Rattle.cred_laws.specs.Made.{AreMadeFrom}
use Rattle.cred_laws.specs.Raw.{IsRaw}
use Rattle.cred_model.specs.FileChanges.{changed_file}
use Rattle.cred_laws.specs.Trace.{IsOwn, AsksWithoutCap, HasThreads, IsAskedFor, IsExecuted}
use Rattle.cred_laws.specs.States.{state_at}
use Rattle.cred_laws.specs.Journals.{IsAlwaysSound, IsAlwaysMade, IsAlwaysValid, LooksIntoOwn, LeavesClear, StaysUndumpable, WritesUnusedSlots}
use Rattle.cred_laws.specs.Journals.{KeepsSealed, KeepsHeld, KeepsOpeners, KeepsPrepared, OverridesLeave, ExecvesByTheRule, GainsAsAnswered, CreatesTasks}
use Rattle.cred_laws.specs.Journals.{CompletesForAll, JournalsAreLawful, FilesStay, ChownsStrip, RawsLeave, RawsByTheRule}
use Rattle.cred_laws.specs.Broadcast.{HasNamed, AllHave, Completes}
use Rattle.cred_laws.proofs.AlikeLaws.{keeps_alike}
use Rattle.cred_laws.proofs.BroadcastLaws.{calls_are_every_threads, followed_after}
use Rattle.cred_laws.proofs.States.{step_at, answered_at, past_end}
use Rattle.cred_laws.proofs.Unused.{no_held_slot_is_rewritten}
use Rattle.cred_laws.proofs.HeldLaws.{held_stays, left_by_each, on_extends, replay-append}
use Rattle.cred_laws.proofs.OverrideLaws.{opener_goes_on, overrides_leave_current}
use Rattle.cred_laws.proofs.PreparedLaws.{prepared_goes_on}
use Rattle.cred_laws.proofs.MadeLaws.{made_after}
use Rattle.cred_laws.proofs.ExecveLaws.{execve_of}
use Rattle.cred_laws.proofs.AlteredLaws.{made_from_files}
use Rattle.cred_laws.proofs.ConfinedLaws.{stays_in_boxes, never_gains}
use Rattle.cred_laws.proofs.FileLaws.{files_change_by_calls, files_are_as_many, chown_strips, stays_stripped}
use Rattle.cred_laws.proofs.RawLaws.{raws_leave_others, raws_are_by_the_rule}
use Rattle.cred_laws.proofs.PermittedLaws.{permitted_gains, new_tasks_are_created}
use Rattle.cred_laws.proofs.ValidLaws.{valid_journal}
use Rattle.cred_laws.proofs.TraceLaws.{looks_into_own_alone, differs_itself, ids_clear_flag, flag_stays_clear}

-- ---- the entries of a journal

-- the entries from one place to another
between : List Entry → ℕ → ℕ → List Entry
between journal k l = drop k (take l journal)

take_between : (journal : List Entry) (k l : ℕ) → k ≤ l → take l journal ≡ take k journal ++ between journal k l
unfolding between
take_between journal k l within =
    sym (take-append-drop k (take l journal))
    ∙ ap (λ (before : List Entry). before ++ drop k (take l journal)) (take-take k l journal within)

each_between : (P : Entry → Type 0) (journal : List Entry) (k l : ℕ)
    → ((i : ℕ) → k ≤ i → i < l → IfSome (slice_get journal i) P) → All P (between journal k l)
unfolding between
each_between P journal k l each i d lt =
    let long = length-drop k (take l journal) in
    let kept = length-take l journal in
    let here : k + i < l = omega arith in
    let within : k + i < length journal = omega arith in
    let holds = each (k + i) (omega arith) here in
    subst P (sym (get_or-drop k (take l journal) i d ∙ get_or-take l journal (k + i) d here))
    (subst (λ (o : Option Entry). IfSome o P) (slice_get-get_or journal (k + i) d within) holds)

-- ---- the laws

pub always_sound : (script : Script) (journal : List Entry) → IsAlwaysSound script journal
always_sound script journal k = sound_after script (take k journal)

pub always_made : (script : Script) (journal : List Entry) → IsAlwaysMade script journal
always_made script journal k = made_after script (take k journal)

pub always_valid : (script : Script) (journal : List Entry) → IsAlwaysValid script journal
always_valid script journal k = valid_journal script (take k journal)

unused_by : (script : Script) (journal : List Entry) (k number : ℕ) (new : Numbered) (o : Option Entry)
    → slice_get journal k ≡ o → length (state_at script journal k).creds ≤ number
    → numbered (state_at script journal (k + 1)).creds number ≡ Some new
    → IfSome o (λ entry. IsUnusedSlot (state_at script journal k) entry.event new.slot)
unused_by script journal k number new (Some entry) is past now =
    no_held_slot_is_rewritten script (state_at script journal k) entry.line entry.event number new (always_sound script journal k) past
    (ap (λ (s : State). numbered s.creds number) (sym (step_at script journal k entry is)) ∙ now)
unused_by script journal k number new None is past now = tt

pub writes_unused_slots : (script : Script) (journal : List Entry) → WritesUnusedSlots script journal
writes_unused_slots script journal k number new = unused_by script journal k number new (slice_get journal k) refl

pub keeps_sealed : (script : Script) (journal : List Entry) → KeepsSealed script journal
keeps_sealed script journal k l number sealed within is =
    let more = between journal k l in
    let grown = on_extends script (state_at script journal k) more in
    ap (λ (j : List Entry). numbered (replay script j).creds number) (take_between journal k l within)
    ∙ ap (λ (s : State). numbered s.creds number) (replay-append script (take k journal) more)
    ∙ ap (λ (creds : List SealedCred). numbered creds number) grown.1
    ∙ numbered_stays (state_at script journal k).creds grown.0 number sealed is

pub keeps_held : (script : Script) (journal : List Entry) → KeepsHeld script journal
keeps_held script journal k l label held within is none =
    ap (λ (j : List Entry). held_by (replay script j) label) (take_between journal k l within)
    ∙ held_stays script (take k journal) (between journal k l) label held is
    (each_between (λ entry. entry.event ≢ Release label) journal k l none)

pub keeps_openers : (script : Script) (journal : List Entry) → KeepsOpeners script journal
keeps_openers script journal k l fd opener within is none =
    let more = between journal k l in
    ap (λ (j : List Entry). opener_of (replay script j) fd) (take_between journal k l within)
    ∙ ap (λ (s : State). opener_of s fd) (replay-append script (take k journal) more)
    ∙ opener_goes_on script (state_at script journal k) more fd opener is
    (each_between (λ entry. entry.event ≢ CloseFile fd) journal k l none)

overrides_by : (script : Script) (journal : List Entry) (k task : ℕ) (o : Option Entry) → slice_get journal k ≡ o
    → IfSome o (λ entry. IsOverriding entry.event
    → option_map (λ t. t.current) (task_of (state_at script journal (k + 1)) task) ≡ option_map (λ t. t.current) (task_of (state_at script journal k) task))
overrides_by script journal k task (Some entry) is = λ overriding.
    ap (λ (s : State). option_map (λ (t : Task). t.current) (task_of s task)) (step_at script journal k entry is)
    ∙ overrides_leave_current script (state_at script journal k) entry.line entry.event task overriding
overrides_by script journal k task None is = tt

pub overrides_leave : (script : Script) (journal : List Entry) → OverridesLeave script journal
overrides_leave script journal k task = overrides_by script journal k task (slice_get journal k) refl

pub keeps_prepared : (script : Script) (journal : List Entry) → KeepsPrepared script journal
keeps_prepared script journal k l label p within is none =
    let more = between journal k l in
    ap (λ (j : List Entry). preparation_of (replay script j) label) (take_between journal k l within)
    ∙ ap (λ (s : State). preparation_of s label) (replay-append script (take k journal) more)
    ∙ prepared_goes_on script (state_at script journal k) more label p is
    (each_between (λ entry. ends_label label entry.event ≡ false) journal k l none)

gains_by : (script : Script) (journal : List Entry) (k task : ℕ) (before after : Numbered) (o : Option Entry)
    → slice_get journal k ≡ o
    → IfSome o (λ entry. entry.answer ≡ (step script (state_at script journal k) entry.line entry.event).0)
    → current_of (state_at script journal k) task ≡ Some before
    → current_of (state_at script journal (k + 1)) task ≡ Some after
    → IfSome o (λ entry. permitted.GainsBy entry.answer before after)
gains_by script journal k task before after (Some entry) is answered was now =
    subst (λ answer. permitted.GainsBy answer before after) (sym answered)
    (permitted_gains script (state_at script journal k) entry.line entry.event task before after (always_sound script journal k) (always_made script journal k)
    was
    (ap (λ (s : State). current_of s task) (sym (step_at script journal k entry is)) ∙ now))
gains_by script journal k task before after None is answered was now = tt

executed_by : (script : Script) (journal : List Entry) (k number slot ended : ℕ) (gains : Gains) (o : Option Entry) → slice_get journal k ≡ o
    → IfSome o (λ entry. entry.answer ≡ (step script (state_at script journal k) entry.line entry.event).0)
    → AreMadeFrom (IsFileOf script journal k) script (state_at script journal k)
    → IfSome o (λ entry. entry.answer ≡ Executed number slot ended gains
    → (x : IsExecve script (state_at script journal k) entry.event number slot gains (state_at script journal (k + 1)))
    × IsFileOf script journal k x.prepared.label (Exec x.place) (Some x.file))
executed_by script journal k number slot ended gains (Some entry) is answered made =
    λ executed.
    let From = IsFileOf script journal k in
    subst (λ t. (x : IsExecve script (state_at script journal k) entry.event number slot gains t) × From x.prepared.label (Exec x.place) (Some x.file))
    (sym (step_at script journal k entry is))
    (execve_of script From (state_at script journal k) entry.line entry.event number slot ended gains (always_sound script journal k) made
    (sym answered ∙ executed))
executed_by script journal k number slot ended gains None is answered made = tt

pub execves_by_the_rule : (script : Script) (journal : List Entry) → IsAnswered script journal → ExecvesByTheRule script journal
execves_by_the_rule script journal answered k number slot ended gains =
    executed_by script journal k number slot ended gains (slice_get journal k) refl (answered_at script journal answered k)
    (made_from_files script journal k answered)

pub gains_as_answered : (script : Script) (journal : List Entry) → IsAnswered script journal → GainsAsAnswered script journal
gains_as_answered script journal answered k task before after =
    gains_by script journal k task before after (slice_get journal k) refl (answered_at script journal answered k)

created_by : (script : Script) (journal : List Entry) (k task : ℕ) (after : Numbered) (o : Option Entry)
    → slice_get journal k ≡ o → task_of (state_at script journal k) task ≡ None
    → current_of (state_at script journal (k + 1)) task ≡ Some after
    → IfSome o (λ entry. IsCreatedWith script (state_at script journal k) entry.event task after)
created_by script journal k task after (Some entry) is none now =
    new_tasks_are_created script (state_at script journal k) entry.line entry.event task after none
    (ap (λ (s : State). current_of s task) (sym (step_at script journal k entry is)) ∙ now)
created_by script journal k task after None is none now = tt

pub creates_tasks : (script : Script) (journal : List Entry) → CreatesTasks script journal
creates_tasks script journal k task after none now =
    created_by script journal k task after (slice_get journal k) refl none now

completes_by : (script : Script) (journal : List Entry) (k process : ℕ) (call : IdCall) (o : Option Entry) → slice_get journal k ≡ o
    → IfSome o (λ entry. entry.answer ≡ (step script (state_at script journal k) entry.line entry.event).0)
    → IfSome o
    (λ entry. Completes (state_at script journal k) entry.event entry.answer (state_at script journal (k + 1)) process call
    → AllHave (HasNamed call) (state_at script journal (k + 1)) process)
completes_by script journal k process call (Some entry) is answered =
    let s = state_at script journal k in
    let Then : State → Answer → Type 0 = λ t answer. Completes s entry.event answer t process call → AllHave (HasNamed call) t process in
    subst (λ t. Then t entry.answer) (sym (step_at script journal k entry is))
    (subst (Then (step script s entry.line entry.event).1) (sym answered)
    (calls_are_every_threads script s entry.line entry.event process call (always_sound script journal k) (always_made script journal k)
    (followed_after script (take k journal))))
completes_by script journal k process call None is answered = tt

pub completes_for_all : (script : Script) (journal : List Entry) → IsAnswered script journal → CompletesForAll script journal
completes_for_all script journal answered k process call =
    completes_by script journal k process call (slice_get journal k) refl (answered_at script journal answered k)

looks_by : (script : Script) (journal : List Entry) (k process : ℕ) (mode : PtraceMode) (own other : Credential) (o : Option Entry)
    → IfSome o (λ entry. entry.answer ≡ (step script (state_at script journal k) entry.line entry.event).0)
    → IfSome o
    (λ entry. AsksWithoutCap (state_at script journal k) entry.event mode own other process → entry.answer ≡ Done
    → IsOwn mode own other × (is_dumpable (state_at script journal k).dumpable process ≡ true))
looks_by script journal k process mode own other (Some entry) answered =
    λ asks done.
    looks_into_own_alone script (state_at script journal k) entry.line entry.event mode own other process (always_valid script journal k) asks
    (sym answered ∙ done)
looks_by script journal k process mode own other None answered = tt

pub looks_into_own : (script : Script) (journal : List Entry) → IsAnswered script journal → LooksIntoOwn script journal
looks_into_own script journal answered k process mode own other =
    looks_by script journal k process mode own other (slice_get journal k) (answered_at script journal answered k)

cleared_by : (script : Script) (journal : List Entry) (k task : ℕ) (owner : Task) (before after : Numbered) (o : Option Entry) → slice_get journal k ≡ o
    → task_of (state_at script journal k) task ≡ Some owner → current_of (state_at script journal k) task ≡ Some before
    → current_of (state_at script journal (k + 1)) task ≡ Some after → differs before.cred after.cred ≡ true
    → is_dumpable (state_at script journal (k + 1)).dumpable owner.process ≡ false
cleared_by script journal k task owner before after (Some entry) is found was now differ =
    ap (λ (s : State). is_dumpable s.dumpable owner.process) (step_at script journal k entry is)
    ∙ ids_clear_flag script (state_at script journal k) entry.line entry.event task owner before after (always_sound script journal k) found was
    (ap (λ (s : State). current_of s task) (sym (step_at script journal k entry is)) ∙ now) differ
cleared_by script journal k task owner before after None is found was now differ =
    absurd (
    let both : Some before ≡ Some after = sym was ∙ ap (λ (s : State). current_of s task) (sym (past_end script journal k is)) ∙ now in
    let same : before ≡ after = cc in
    let no = differs_itself before.cred in
    let yes = ap (λ (n : Numbered). differs before.cred n.cred) same ∙ differ in
    cc)

kept_clear : (script : Script) (journal : List Entry) (i process : ℕ) (o : Option Entry) → slice_get journal i ≡ o
    → IfSome o (λ entry. entry.answer ≡ (step script (state_at script journal i) entry.line entry.event).0)
    → HasThreads (state_at script journal i) process
    → IfSome o (λ entry. IsAskedFor (state_at script journal i) entry.event process → ⊥)
    → IfSome o (λ entry. IsExecuted script (state_at script journal i) entry.event entry.answer (state_at script journal (i + 1)) process → ⊥)
    → is_dumpable (state_at script journal i).dumpable process ≡ false
    → is_dumpable (state_at script journal (i + 1)).dumpable process ≡ false
kept_clear script journal i process (Some entry) is answered has unasked unexecuted clear =
    let s = state_at script journal i in
    ap (λ (t : State). is_dumpable t.dumpable process) (step_at script journal i entry is)
    ∙ flag_stays_clear script s entry.line entry.event process (always_sound script journal i) (always_made script journal i) has clear unasked
    (λ done.
    unexecuted
    (subst (λ answer. IsExecuted script s entry.event answer (state_at script journal (i + 1)) process) (sym answered)
    (subst (λ t. IsExecuted script s entry.event (step script s entry.line entry.event).0 t process) (sym (step_at script journal i entry is)) done)))
kept_clear script journal i process None is answered has unasked unexecuted clear =
    ap (λ (t : State). is_dumpable t.dumpable process) (past_end script journal i is) ∙ clear

clear_until : (script : Script) (journal : List Entry) (k l process : ℕ) → IsAnswered script journal → k < l
    → is_dumpable (state_at script journal (k + 1)).dumpable process ≡ false
    → ((i : ℕ) → k < i → i < l → LeavesClear script journal i process)
    → is_dumpable (state_at script journal l).dumpable process ≡ false
clear_until script journal k zero process answered before clear leaves = absurd (omega arith)
clear_until script journal k (suc i) process answered before clear leaves =
    elim (cases_lt k i) [
      | inl later ↦
          let one = leaves i later (omega arith) in
          let next : i + 1 ≡ suc i = omega arith in
          ap (λ n. is_dumpable (state_at script journal n).dumpable process) (sym next)
          ∙ kept_clear script journal i process (slice_get journal i) refl (answered_at script journal answered i) one.has one.unasked one.unexecuted
          (clear_until script journal k i process answered later clear (λ j above below. leaves j above (omega (arith, below))))
      | inr first ↦
          let same : k + 1 ≡ suc i = omega (arith, first, before) in
          ap (λ n. is_dumpable (state_at script journal n).dumpable process) (sym same) ∙ clear
    ]

pub stays_undumpable : (script : Script) (journal : List Entry) → IsAnswered script journal → StaysUndumpable script journal
stays_undumpable script journal answered k l task owner before after later found was now differ leaves =
    clear_until script journal k l owner.process answered later
    (cleared_by script journal k task owner before after (slice_get journal k) refl found was now differ) leaves

-- ---- files

files_by : (script : Script) (journal : List Entry) (k place : ℕ) (old new : File) (o : Option Entry) → slice_get journal k ≡ o
    → IfSome o (λ entry. entry.answer ≡ (step script (state_at script journal k) entry.line entry.event).0)
    → slice_get (state_at script journal k).inodes place ≡ Some old → slice_get (state_at script journal (k + 1)).inodes place ≡ Some new → old ≢ new
    → IfSome o (λ entry. (changed_file entry.event ≡ Some place) × (entry.answer ≡ Done))
files_by script journal k place old new (Some entry) is answered was now differ =
    let s = state_at script journal k in
    let both = files_change_by_calls script s entry.line entry.event place old new was
    (ap (λ (t : State). slice_get t.inodes place) (sym (step_at script journal k entry is)) ∙ now) differ in
    (both.0, answered ∙ both.1)
files_by script journal k place old new None is answered was now differ = tt

as_many_by : (script : Script) (journal : List Entry) (k : ℕ) (o : Option Entry) → slice_get journal k ≡ o
    → IfSome o (λ _. length (state_at script journal (k + 1)).inodes ≡ length (state_at script journal k).inodes)
as_many_by script journal k (Some entry) is =
    let s = state_at script journal k in
    ap (λ (t : State). length t.inodes) (step_at script journal k entry is) ∙ files_are_as_many script s entry.line entry.event
as_many_by script journal k None is = tt

pub files_stay : (script : Script) (journal : List Entry) → IsAnswered script journal → FilesStay script journal
files_stay script journal answered = record {
  many = λ k. as_many_by script journal k (slice_get journal k) refl;
  calls = λ k place old new was now differ.
      files_by script journal k place old new (slice_get journal k) refl (answered_at script journal answered k) was now differ;
}

chowned_at : (script : Script) (journal : List Entry) (k place hold : ℕ) (owner group : Arg) (old : File) (entry : Entry) → slice_get journal k ≡ Some entry
    → entry.answer ≡ (step script (state_at script journal k) entry.line entry.event).0
    → entry.event ≡ Chown hold place owner group → entry.answer ≡ Done → slice_get (state_at script journal k).inodes place ≡ Some old
    → strips old owner group ≡ true → HasStripped (state_at script journal (k + 1)).inodes place
chowned_at script journal k place hold owner group old entry is answered event_is done was test =
    let s = state_at script journal k in
    let call = Chown hold place owner group in
    let so : (step script s entry.line call).0 ≡ Done = ap (λ e. (step script s entry.line e).0) (sym event_is) ∙ sym answered ∙ done in
    subst (λ (t : State). HasStripped t.inodes place)
    (ap (λ e. (step script s entry.line e).1) (sym event_is) ∙ sym (step_at script journal k entry is))
    (chown_strips script s entry.line hold place owner group old was test so)

pub chowns_strip : (script : Script) (journal : List Entry) → IsAnswered script journal → ChownsStrip script journal
chowns_strip script journal answered k l place hold owner group old entry before is event_is done was test none =
    let more = between journal (k + 1) l in
    let here : entry.answer ≡ (step script (state_at script journal k) entry.line entry.event).0
    = subst (λ (o : Option Entry). IfSome o (λ entry. entry.answer ≡ (step script (state_at script journal k) entry.line entry.event).0)) is
    (answered_at script journal answered k) in
    subst (λ (t : State). HasStripped t.inodes place)
    (sym (ap (replay script) (take_between journal (k + 1) l (omega arith)) ∙ replay-append script (take (k + 1) journal) more))
    (left_by_each (λ t. HasStripped t.inodes place) (λ event. resets event place ≡ false)
    (λ script s line event. stays_stripped script s line event place) script (state_at script journal (k + 1)) more
    (chowned_at script journal k place hold owner group old entry is here event_is done was test)
    (each_between (λ later. resets later.event place ≡ false) journal (k + 1) l (λ i above below. none i (omega (arith, above)) below)))

-- ---- id calls of one thread alone

raws_by : (script : Script) (journal : List Entry) (k task other : ℕ) (call : IdCall) (o : Option Entry) → slice_get journal k ≡ o → other ≢ task
    → IfSome o (λ entry. entry.event ≡ Raw task call
    → option_map (λ t. t.current) (task_of (state_at script journal (k + 1)) other) ≡ option_map (λ t. t.current) (task_of (state_at script journal k) other))
raws_by script journal k task other call (Some entry) is apart = λ event_is.
    let s = state_at script journal k in
    ap (λ (t : State). option_map (λ (t : Task). t.current) (task_of t other))
    (step_at script journal k entry is ∙ ap (λ e. (step script s entry.line e).1) event_is)
    ∙ raws_leave_others script s entry.line task call other apart
raws_by script journal k task other call None is apart = tt

pub raws_leave : (script : Script) (journal : List Entry) → RawsLeave script journal
raws_leave script journal k task other call apart = raws_by script journal k task other call (slice_get journal k) refl apart

raw_ruled : (script : Script) (journal : List Entry) (k task number slot : ℕ) (call : IdCall) (o : Option Entry) → slice_get journal k ≡ o
    → IfSome o (λ entry. entry.answer ≡ (step script (state_at script journal k) entry.line entry.event).0)
    → IfSome o (λ entry. entry.event ≡ Raw task call → entry.answer ≡ Sealed number slot
    → IsRaw (state_at script journal k) task call number slot (state_at script journal (k + 1)))
raw_ruled script journal k task number slot call (Some entry) is answered = λ event_is sealed.
    let s = state_at script journal k in
    subst (IsRaw s task call number slot)
    (ap (λ e. (step script s entry.line e).1) (sym event_is) ∙ sym (step_at script journal k entry is))
    (raws_are_by_the_rule script s entry.line task call number slot
    (ap (λ e. (step script s entry.line e).0) (sym event_is) ∙ sym answered ∙ sealed))
raw_ruled script journal k task number slot call None is answered = tt

pub raws_by_the_rule : (script : Script) (journal : List Entry) → IsAnswered script journal → RawsByTheRule script journal
raws_by_the_rule script journal answered k task number slot call =
    raw_ruled script journal k task number slot call (slice_get journal k) refl (answered_at script journal answered k)

pub lawful : JournalsAreLawful
lawful script journal answered = record {
  sound = always_sound script journal;
  made = always_made script journal;
  valid = always_valid script journal;
  unused = writes_unused_slots script journal;
  sealed = keeps_sealed script journal;
  held = keeps_held script journal;
  openers = keeps_openers script journal;
  overrides = overrides_leave script journal;
  prepared = keeps_prepared script journal;
  execves = execves_by_the_rule script journal answered;
  gains = gains_as_answered script journal answered;
  created = creates_tasks script journal;
  calls = completes_for_all script journal answered;
  alike = keeps_alike script journal answered;
  looks = looks_into_own script journal answered;
  undumpable = stays_undumpable script journal answered;
  files = files_stay script journal answered;
  chowns = chowns_strip script journal answered;
  raws = raws_leave script journal;
  raw_rule = raws_by_the_rule script journal answered;
  boxes = stays_in_boxes script journal answered;
  never = never_gains script journal answered;
}
