-- Who looks into whom without CAP_SYS_PTRACE, and which processes stop being dumpable.
use Rattle.std.proofs.Common.{◌≡◌, ◌≢◌, ◌==◌, ◌&&◌, ◌||◌, ◌⊎◌, inl, inr, not, ℕ, ◌+◌, ◌<◌, List, [], ◌∷◌, ◌++◌, length, find, is_some, Option, Some, None}
use Rattle.std.proofs.Common.{Result, Ok, Err, Bool, true, false, cond, refl, sym, ap, ◌∙◌, subst, arith}
use Rattle.std.specs.List.{filter}
use Rattle.std.specs.Option.{option_map, option_map_or, option_and_then, option_or}
use Rattle.std.proofs.lemmas.Bool.{eqb-true, eqb-false}
use Rattle.std.proofs.lemmas.Bool.Decides.{nat_tests}
use Rattle.std.proofs.lemmas.List.Elements.{All-weaker, filter_passes}
use Rattle.std.proofs.lemmas.List.Folds.{find-append}
use Rattle.cred_ids.specs.declared.id.Ids4.{Ids4}
use Rattle.cred_caps.specs.Caps.{Caps, meet, IsWithin}
use Rattle.cred_caps.proofs.SetLaws.{within-trans}
use Rattle.cred_record.specs.Credential.{Credential, capable}
use Rattle.cred_record.specs.declared.gains.Gains.{Gains}
use Rattle.cred_event.specs.declared.answer.Answer.{Answer}
use Rattle.cred_event.specs.declared.answer.Answer.TheVariants.{Done, Eperm, Executed}
use Rattle.cred_event.specs.declared.event.Change.{Change}
use Rattle.cred_event.specs.declared.event.Change.TheVariants.{Exec}
use Rattle.cred_event.specs.declared.event.Event.{Event}
use Rattle.cred_event.specs.declared.event.Event.TheVariants.{Commit, Dumpable}
use Rattle.cred_record.specs.declared.mode.PtraceMode.{PtraceMode}
use Rattle.cred_record.specs.declared.mode.PtraceMode.TheVariants.{Fs, Real}
use Rattle.cred_model.specs.Script.{Script, reaches}
use Rattle.cred_model.specs.State.{State, Task, Hold, Prepared, Changed, Numbered, ProcessFlag, numbered, task_of, current_of, hold_of, held_by, prepared_of}
use Rattle.cred_model.specs.Ends.{is_thread_of, is_beside}
use Rattle.cred_caps.specs.Numbers.{SYS_PTRACE}
use Rattle.cred_rules.specs.Ptrace.{asking_caps, are_all, has_asking_ids, has_sys_ptrace, is_no_stronger, may_trace}
use Rattle.cred_model.specs.Dumpable.{flag_in, is_dumpable, with_process_flag, flagged, set_flag, without_flag, differs, renewed, is_gain, flags_by, differs_by}
use Rattle.cred_model.specs.Dumpable.{flags_begun, flags_left, flag_of_value}
use Rattle.cred_model.specs.TaskEvents.{by_ptrace}
use Rattle.cred_model.specs.LabelEvents.{commit_answer, committed_by}
use Rattle.cred_model.specs.Step.{done, step}
use Rattle.cred_model.proofs.Lists.{find_changed, none_found}
use Rattle.cred_sound.specs.Sound.{IsSound}
use Rattle.cred_sound.proofs.Parts.{TasksChange, Cause, Creation, ByBegin, ByAct, ByRaw, ByCommit, BySpawn, ByFork, ByExit, ByAbort, SameTasks, SetsFlag}
use Rattle.cred_sound.proofs.Parts.{Creates, Shares, Renews, Overrides, Fewer}
use Rattle.cred_sound.proofs.Events.{changes}
use Rattle.cred_sound.proofs.Threads.{not_true}
use Rattle.cred_laws.specs.Made.{AreMade}
use Rattle.cred_laws.specs.Valid.{IsValid, AreValid}
use Rattle.cred_laws.specs.Trace.{AreAll, IsOwn, AsksWithoutCap, LooksIntoOwnAlone, HasThreads, IdsClearFlag, IsAskedFor, IsExecuted, FlagStaysClear}
use Rattle.cred_laws.proofs.Cases.{some_case}
use Rattle.cred_laws.proofs.ExecveLaws.{execves_are_by_the_rule, found_first}
use Rattle.cred_laws.proofs.PermittedLaws.{Goes, goes_by}
use Rattle.cred_laws.proofs.Unexecuted.{answer_of, answers_settled}
use Rattle.cred_laws.proofs.ValidLaws.{numbered_valid}

-- ---- who looks into whom

-- the question passed the check
record Traced (script : Script) (s : State) (from hold to target : ℕ) (mode : PtraceMode) : Type 0 where
  sender : Task
  receiver : Task
  own : Numbered
  other : Numbered
  asking : task_of s from ≡ Some sender
  asked : task_of s to ≡ Some receiver
  held : held_by s hold ≡ Some own
  targeted : held_by s target ≡ Some other
  may : may_trace own.cred other.cred (sender.process == receiver.process) (reaches script.namespaces own.cred.ns other.cred.ns)
      (is_dumpable s.dumpable receiver.process) mode ≡ true

traced : (script : Script) (s : State) (from hold to target : ℕ) (mode : PtraceMode)
    → answer_of (by_ptrace script s from hold to target mode) ≡ Done → Traced script s from hold to target mode
traced script s from hold to target mode =
    let Q : Result (Answer × State) Answer → Type 0 = λ r. answer_of r ≡ Done → Traced script s from hold to target mode in
    some_case Q (task_of s from) _ _ (λ answered. cc)
    (λ sender asking. some_case Q (task_of s to) _ _ (λ answered. cc)
    (λ receiver asked. some_case Q (held_by s hold) _ _ (λ answered. cc)
    (λ own held. some_case Q (held_by s target) _ _ (λ answered. cc)
    (λ other targeted.
    let may =
    may_trace own.cred other.cred (sender.process == receiver.process) (reaches script.namespaces own.cred.ns other.cred.ns)
    (is_dumpable s.dumpable receiver.process) mode in
    elim may as
    (λ b. may ≡ b → answer_of (cond {A = Result (Answer × State) Answer} b (Ok (Done, s)) (Err Eperm)) ≡ Done → Traced script s from hold to target mode) [
      | true ↦ λ is answered. record {
        sender = sender;
        receiver = receiver;
        own = own;
        other = other;
        asking = asking;
        asked = asked;
        held = held;
        targeted = targeted;
        may = is;
      }
      | false ↦ λ is answered. absurd (cc)
    ] refl))))

-- without the capability, and between two processes, each test has to be passed
tests : (same capable ids flag within : Bool) → same ≡ false → capable ≡ false
    → (same || ((capable || ids) && (capable || flag) && (capable || within))) ≡ true
    → (ids ≡ true) × (flag ≡ true) × (within ≡ true)
tests true capable ids flag within apart lacks may = cc
tests false true ids flag within apart lacks may = cc
tests false false true true true apart lacks may = (refl, refl, refl)
tests false false true true false apart lacks may = cc
tests false false true false within apart lacks may = cc
tests false false false flag within apart lacks may = cc

and_both : (a b : Bool) → (a && b) ≡ true → (a ≡ true) × (b ≡ true)
and_both true b both = (refl, both)
and_both false b both = cc

all_are : (id : ℕ) (ids : Ids4) → are_all id ids ≡ true → AreAll id ids
all_are id ids is =
    let outer = and_both ((ids.real == id) && (ids.effective == id)) (ids.saved == id) is in
    let inner = and_both (ids.real == id) (ids.effective == id) outer.0 in
    record {
      real = eqb-true ids.real id inner.0;
      effective = eqb-true ids.effective id inner.1;
      saved = eqb-true ids.saved id outer.1;
    }

-- what is asked by is permitted
asked_within : (mode : PtraceMode) (from : Credential) (perm : Caps) → IsValid from → IsWithin perm (asking_caps mode from) → IsWithin perm from.perm
asked_within Fs from perm valid within = within-trans perm from.eff from.perm within valid.effective
asked_within Real from perm valid within = within

own_alone : (mode : PtraceMode) (from to : Credential) → IsValid from → has_asking_ids from to mode ≡ true → is_no_stronger from to mode ≡ true
    → IsOwn mode from to
own_alone mode from to valid ids within =
    let both = and_both _ _ ids in
    let sets = and_both (from.ns == to.ns) _ within in
    record {
      user = all_are _ to.uid both.0;
      group = all_are _ to.gid both.1;
      permitted = asked_within mode from to.perm valid (eqb-true (meet to.perm (asking_caps mode from)) to.perm sets.1);
    }

held_valid : (s : State) (label : ℕ) (c : Numbered) → AreValid s → held_by s label ≡ Some c → IsValid c.cred
held_valid s label c valid is = by (hold_of s label) is
  where
    by : (o : Option Hold) → option_and_then (λ h. numbered s.creds h.number) o ≡ Some c → IsValid c.cred
    by None none = cc
    by (Some h) found = numbered_valid s.creds h.number c valid found

lacks_cap : (c : Credential) (reach : Bool) → capable c SYS_PTRACE ≡ false → has_sys_ptrace c reach ≡ false
lacks_cap c reach lacks = ap (λ b. b && reach) lacks

-- the one that was found is the one that is named
one_found : {A : Type 0} (o : Option A) (x y : A) → o ≡ Some x → o ≡ Some y → x ≡ y
one_found o x y a b = let both : Some x ≡ Some y = sym a ∙ b in cc

named_cred : (o : Option Numbered) (n : Numbered) (c : Credential) → o ≡ Some n → option_map (λ (x : Numbered). x.cred) o ≡ Some c → n.cred ≡ c
named_cred o n c is named = let both : Some n.cred ≡ Some c = sym (ap (option_map (λ (x : Numbered). x.cred)) is) ∙ named in cc

looks_by : (script : Script) (s : State) (line : ℕ) (mode : PtraceMode) (own other : Credential) (process : ℕ) (event : Event) → AreValid s
    → (a : AsksWithoutCap s event mode own other process) → answer_of (done script s line event) ≡ Done
    → IsOwn mode own other × (is_dumpable s.dumpable process ≡ true)
looks_by script s line mode own other process event valid a answered =
    let t = traced script s a.from a.hold a.to a.target mode (ap (λ e. answer_of (done script s line e)) (sym a.asks) ∙ answered) in
    let sender : t.sender ≡ a.sender = one_found (task_of s a.from) t.sender a.sender t.asking a.asking in
    let receiver : t.receiver ≡ a.receiver = one_found (task_of s a.to) t.receiver a.receiver t.asked a.asked in
    let owned : t.own.cred ≡ own = named_cred (held_by s a.hold) t.own own t.held a.held in
    let targeted : t.other.cred ≡ other = named_cred (held_by s a.target) t.other other t.targeted a.targeted in
    let differ : t.sender.process ≢ t.receiver.process
    = λ same. a.apart (sym (ap (λ (t : Task). t.process) sender) ∙ same ∙ ap (λ (t : Task). t.process) receiver) in
    let apart : (t.sender.process == t.receiver.process) ≡ false = grind (arith, nat_tests) in
    let lacks : has_sys_ptrace t.own.cred (reaches script.namespaces t.own.cred.ns t.other.cred.ns) ≡ false
    = lacks_cap t.own.cred _ (ap (λ c. capable c SYS_PTRACE) owned ∙ a.lacks) in
    let passed = tests _ _ _ _ _ apart lacks t.may in (
      subst (λ from. IsOwn mode from other) owned
          (subst (IsOwn mode t.own.cred) targeted (own_alone mode t.own.cred t.other.cred (held_valid s a.hold t.own valid t.held) passed.0 passed.2)),
      ap (is_dumpable s.dumpable) (sym (ap (λ (t : Task). t.process) receiver ∙ a.process_of)) ∙ passed.1,
    )

pub looks_into_own_alone : LooksIntoOwnAlone
looks_into_own_alone script s line event mode own other process valid asks answered =
    looks_by script s line mode own other process event valid asks (sym (answers_settled s (done script s line event)) ∙ answered)

-- ---- the flag of a process, where flags change

-- what a flag says, or that there is none
abbrev told : Option ProcessFlag → Bool
told o = option_map_or (λ f. f.dumpable) o false

flagged_process : (process : ℕ) (dumpable : Bool) (f : ProcessFlag) → (flagged process dumpable f).process ≡ f.process
flagged_process process dumpable f =
    elim (f.process == process) as (λ b. (cond b (record f { dumpable = dumpable }) f).process ≡ f.process) [ true ↦ refl | false ↦ refl ]

found_process : (flags : List ProcessFlag) (process : ℕ) (f : ProcessFlag) → flag_in flags process ≡ Some f → f.process ≡ process
found_process [] process f is = cc
found_process (g ∷ flags) process f is =
    elim (g.process == process) as (λ b. (g.process == process) ≡ b → cond b (Some g) (flag_in flags process) ≡ Some f → f.process ≡ process) [
      | true ↦ λ test same. let one : g ≡ f = cc in sym (ap (λ (x : ProcessFlag). x.process) one) ∙ eqb-true g.process process test
      | false ↦ λ test later. found_process flags process f later
    ] refl is

-- a flag that is set to false is false, and others stay
set_clear : (flags : List ProcessFlag) (process : ℕ) → is_dumpable (set_flag flags process false) process ≡ false
set_clear flags process =
    ap told (find_changed (λ (f : ProcessFlag). f.process) (flagged process false) flags process (flagged_process process false))
    ∙ by (flag_in flags process) refl
  where
    by : (o : Option ProcessFlag) → flag_in flags process ≡ o → told (option_map (flagged process false) o) ≡ false
    by None is = refl
    by (Some f) is =
        let own = found_process flags process f is in
        let test : (f.process == process) ≡ true = grind (arith, nat_tests) in
        ap (λ b. (cond b (record f { dumpable = false }) f).dumpable) test

set_other : (flags : List ProcessFlag) (other process : ℕ) (dumpable : Bool) → other ≢ process
    → is_dumpable (set_flag flags other dumpable) process ≡ is_dumpable flags process
set_other flags other process dumpable apart =
    ap told (find_changed (λ (f : ProcessFlag). f.process) (flagged other dumpable) flags process (flagged_process other dumpable))
    ∙ by (flag_in flags process) refl
  where
    by : (o : Option ProcessFlag) → flag_in flags process ≡ o → told (option_map (flagged other dumpable) o) ≡ told o
    by None is = refl
    by (Some f) is =
        let own = found_process flags process f is in
        let test : (f.process == other) ≡ false = grind (arith, nat_tests) in
        ap (λ b. (cond b (record f { dumpable = dumpable }) f).dumpable) test

-- what is set for one process leaves another's flag unset, or unsets its own
set_stays : (flags : List ProcessFlag) (other process : ℕ) (dumpable : Bool) → (other ≡ process → dumpable ≡ false)
    → is_dumpable flags process ≡ false → is_dumpable (set_flag flags other dumpable) process ≡ false
set_stays flags other process dumpable clears clear =
    elim (other == process) as (λ b. (other == process) ≡ b → is_dumpable (set_flag flags other dumpable) process ≡ false) [
      | true ↦ λ test.
          let same = eqb-true other process test in
          ap (λ d. is_dumpable (set_flag flags other d) process) (clears same)
          ∙ ap (λ p. is_dumpable (set_flag flags p false) process) same
          ∙ set_clear flags process
      | false ↦ λ test. set_other flags other process dumpable (eqb-false other process test) ∙ clear
    ] refl

renewed_stays : (flags : List ProcessFlag) (other process : ℕ) (b : Bool) → is_dumpable flags process ≡ false
    → is_dumpable (renewed flags other b) process ≡ false
renewed_stays flags other process true clear = set_stays flags other process false (λ same. refl) clear
renewed_stays flags other process false clear = clear

-- a process more
with_stays : (flags : List ProcessFlag) (other process : ℕ) (dumpable : Bool) → other ≢ process → is_dumpable flags process ≡ false
    → is_dumpable (with_process_flag flags other dumpable) process ≡ false
with_stays flags other process dumpable apart clear =
    let new : ProcessFlag = record { process = other; dumpable = dumpable } in
    let test : (other == process) ≡ false = grind (arith, nat_tests) in
    ap told (find-append (λ (f : ProcessFlag). f.process == process) flags (new ∷ [])
    ∙ ap (λ b. option_or (flag_in flags process) (cond b (Some new) None)) test)
    ∙ by (flag_in flags process) clear
  where
    by : (o : Option ProcessFlag) → told o ≡ false → told (option_or o None) ≡ false
    by None is = refl
    by (Some f) is = is

-- one that has ended
find_kept : {X : Type 0} (test p : X → Bool) (xs : List X) → ((x : X) → test x ≡ true → p x ≡ true) → find test (filter p xs) ≡ find test xs
find_kept test p [] keeps = refl
find_kept test p (x ∷ xs) keeps =
    elim (p x) as (λ b. (test x ≡ true → b ≡ true) → find test (cond b (x ∷ filter p xs) (filter p xs)) ≡ cond (test x) (Some x) (find test xs)) [
      | true ↦ λ keep. ap (cond (test x) (Some x)) (find_kept test p xs keeps)
      | false ↦ λ keep.
          elim (test x) as (λ a. (a ≡ true → false ≡ true) → find test (filter p xs) ≡ cond a (Some x) (find test xs)) [
            | true ↦ λ passes. absurd (let no : false ≡ true = passes refl in cc)
            | false ↦ λ passes. find_kept test p xs keeps
          ] keep
    ] (keeps x)

gone_clear : (flags : List ProcessFlag) (process : ℕ) → is_dumpable (without_flag flags process) process ≡ false
gone_clear flags process =
    let stays : ProcessFlag → Bool = λ f. not (f.process == process) in
    ap told (none_found (λ (f : ProcessFlag). f.process == process) (filter stays flags)
    (All-weaker (λ (f : ProcessFlag). not (f.process == process) ≡ true) (λ f. (f.process == process) ≡ false) (λ f on. not_true (f.process == process) on)
    (filter stays flags) (filter_passes stays flags)))

gone_stays : (flags : List ProcessFlag) (other process : ℕ) → is_dumpable flags process ≡ false → is_dumpable (without_flag flags other) process ≡ false
gone_stays flags other process clear =
    elim (other == process) as (λ b. (other == process) ≡ b → is_dumpable (without_flag flags other) process ≡ false) [
      | true ↦ λ test.
          let same = eqb-true other process test in
          ap (λ p. is_dumpable (without_flag flags p) process) same ∙ gone_clear flags process
      | false ↦ λ test.
          let apart : other ≢ process = eqb-false other process test in
          ap told (find_kept (λ (f : ProcessFlag). f.process == process) (λ f. not (f.process == other)) flags
          (λ f is.
          let own : f.process ≡ process = eqb-true f.process process is in
          let no : (f.process == other) ≡ false = grind (arith, nat_tests) in ap not no))
          ∙ clear
    ] refl

-- ---- a task whose ids change

pub differs_itself : (c : Credential) → differs c c ≡ false
differs_itself c = grind (arith, nat_tests)

-- what a commit says of the flag where an id is another one
committed_clear : (change : Change) (gains : Gains) (flags : List ProcessFlag) (process : ℕ) (other : Bool) → other ≡ true
    → is_dumpable (flags_by change gains flags process other) process ≡ false
committed_clear (Exec file) gains flags process other is =
    ap (λ b. is_dumpable (set_flag flags process (not b && not (is_gain gains))) process) is ∙ set_clear flags process
committed_clear change gains flags process other is = ap (λ b. is_dumpable (renewed flags process b) process) is ∙ set_clear flags process

cause_clears : (s : State) (event : Event) (task : ℕ) (owner : Task) (ends : Task → Bool) (c : Credential) (made : Answer × State) (before : Numbered)
    → task_of s task ≡ Some owner → current_of s task ≡ Some before → differs before.cred c ≡ true → Cause s event task owner ends c made
    → is_dumpable made.1.dumpable owner.process ≡ false
cause_clears s event task owner ends c made before found is differ (ByBegin call old number slot begins has ruled new idle none broadcasts answered flags) =
    let one = one_found (current_of s task) before old is has in
    ap (λ fs. is_dumpable fs owner.process) flags
    ∙ ap (λ b. is_dumpable (renewed s.dumpable owner.process b) owner.process) (ap (λ (n : Numbered). differs n.cred c) (sym one) ∙ differ)
    ∙ set_clear s.dumpable owner.process
cause_clears s event task owner ends c made before found is differ
    (ByAct number slot broadcast old acts opened first has ruled none broadcasts answered flags) =
    let one = one_found (current_of s task) before old is has in
    ap (λ fs. is_dumpable fs owner.process) flags
    ∙ ap (λ b. is_dumpable (renewed s.dumpable owner.process b) owner.process) (ap (λ (n : Numbered). differs n.cred c) (sym one) ∙ differ)
    ∙ set_clear s.dumpable owner.process
cause_clears s event task owner ends c made before found is differ (ByRaw call old slot raws has ruled idle none broadcasts answered flags) =
    let one = one_found (current_of s task) before old is has in
    ap (λ fs. is_dumpable fs owner.process) flags
    ∙ ap (λ b. is_dumpable (renewed s.dumpable owner.process b) owner.process) (ap (λ (n : Numbered). differs n.cred c) (sym one) ∙ differ)
    ∙ set_clear s.dumpable owner.process
cause_clears s event task owner ends c made before found is differ
    (ByCommit label place slot count p last commits first at own changed same cred ending broadcasts answered flags) =
    let here : numbered s.creds owner.current ≡ Some before = sym (ap (option_and_then (λ (t : Task). numbered s.creds t.current)) found) ∙ is in
    let other : differs_by s owner last ≡ true
    = ap (λ (o : Option Numbered). option_map_or (λ old. differs old.cred last.cred) o false) here
    ∙ ap (differs before.cred) (sym cred) ∙ differ in
    ap (λ fs. is_dumpable fs owner.process) flags ∙ committed_clear last.change last.gains s.dumpable owner.process (differs_by s owner last) other

goes_clear : (s : State) (event : Event) (made : Answer × State) (task : ℕ) (owner : Task) (before after : Numbered)
    → task_of s task ≡ Some owner → current_of s task ≡ Some before → differs before.cred after.cred ≡ true → Goes s event made task before after
    → is_dumpable made.1.dumpable owner.process ≡ false
goes_clear s event made task owner before after found is differ (inl same) =
    absurd (let no = differs_itself before.cred in let yes = ap (λ (n : Numbered). differs before.cred n.cred) (sym same) ∙ differ in cc)
goes_clear s event made task owner before after found is differ (inr new) =
    let one = one_found (task_of s task) new.owner owner new.found found in
    ap (λ (t : Task). is_dumpable made.1.dumpable t.process) (sym one)
    ∙ cause_clears s event task new.owner new.ends after.cred made before new.found is differ new.cause

pub ids_clear_flag : IdsClearFlag
ids_clear_flag script s line event task owner before after sound found is now differ =
    let c = changes script s line event in
    goes_clear s event (step script s line event) task owner before after found is differ
    (goes_by script s event c.left _ task before after sound c.creds c.tasks is now)

-- ---- a flag that stays unset

-- a process that has threads isn't one that has none
has_other : (tasks : List Task) (process other : ℕ) → is_some (find (is_thread_of process) tasks) ≡ true
    → is_some (find (is_thread_of other) tasks) ≡ false → other ≢ process
has_other tasks process other has none same =
    let both = sym none ∙ ap (λ p. is_some (find (is_thread_of p) tasks)) same ∙ has in cc

-- the value that sets the flag
value_is : (value : ℕ) (flag : Bool) → flag_of_value value ≡ Some flag → (value ≢ 1 → flag ≡ false)
value_is value flag is other = by (value == 0) (value == 1) refl is
  where
    by : (zero_value one_value : Bool) → (value == 1) ≡ one_value
        → cond zero_value (Some false) (cond one_value (Some true) None) ≡ Some flag → flag ≡ false
    by true one test same = cc
    by false true test same = absurd (other (eqb-true value 1 test))
    by false false test same = cc

-- what a commit leaves where it isn't an execve of the process
committed_stays : (change : Change) (gains : Gains) (flags : List ProcessFlag) (other process : ℕ) (b : Bool) → is_dumpable flags process ≡ false
    → ((file : ℕ) → change ≡ Exec file → other ≢ process) → is_dumpable (flags_by change gains flags other b) process ≡ false
committed_stays (Exec file) gains flags other process b clear apart =
    set_stays flags other process _ (λ same. absurd (apart file refl same)) clear
committed_stays change gains flags other process b clear apart = renewed_stays flags other process b clear

module _ (script : Script) (s : State) (line : ℕ) (event : Event) (process : ℕ) (sound : IsSound s) (are : AreMade script s) (has : HasThreads s process)
    (clear : is_dumpable s.dumpable process ≡ false) (unasked : IsAskedFor s event process → ⊥)
    (unexecuted : IsExecuted script s event (step script s line event).0 (step script s line event).1 process → ⊥) where
  abbrev Made : Answer × State
  Made = step script s line event

  -- the task of the execve is the one whose label is committed
  executes : (label place slot count file : ℕ) (p : Prepared) (last : Changed) (owner : Task) → event ≡ Commit label
      → find (λ p. p.label == label) s.prepared ≡ Some p → task_of s p.task ≡ Some owner → last.change ≡ Exec file
      → Made.0 ≡ commit_answer last (length s.creds) slot count → owner.process ≢ process
  executes label place slot count file p last owner commits stood found executed answered same =
      let is : Made.0 ≡ Executed (length s.creds) slot count last.gains
      = answered ∙ ap (λ change. committed_by change last.gains (length s.creds) slot count) executed in
      let x = execves_are_by_the_rule script s line event (length s.creds) slot count last.gains sound are is in
      let both : Commit label ≡ Commit x.prepared.label = sym commits ∙ x.commits in
      let labels : label ≡ x.prepared.label = cc in
      let one = one_found (prepared_of s label) p x.prepared stood (ap (prepared_of s) labels ∙ x.stood) in
      let tasks = one_found (task_of s p.task) owner x.task found (ap (λ (q : Prepared). task_of s q.task) one ∙ x.lives) in
      unexecuted (length s.creds, slot, count, last.gains, is, x, ap (λ (t : Task). t.process) (sym tasks) ∙ same)

  renews : (task : ℕ) (owner : Task) (ends : Task → Bool) (c : Credential) → task_of s task ≡ Some owner → Cause s event task owner ends c Made
      → is_dumpable Made.1.dumpable process ≡ false
  renews task owner ends c found (ByBegin call old number slot begins has_old ruled new idle none broadcasts answered flags) =
      ap (λ fs. is_dumpable fs process) flags ∙ renewed_stays s.dumpable owner.process process _ clear
  renews task owner ends c found (ByAct number slot broadcast old acts opened first has_old ruled none broadcasts answered flags) =
      ap (λ fs. is_dumpable fs process) flags ∙ renewed_stays s.dumpable owner.process process _ clear
  renews task owner ends c found (ByRaw call old slot raws has_old ruled idle none broadcasts answered flags) =
      ap (λ fs. is_dumpable fs process) flags ∙ renewed_stays s.dumpable owner.process process _ clear
  renews task owner ends c found (ByCommit label place slot count p last commits first at own changed same cred ending broadcasts answered flags) =
      ap (λ fs. is_dumpable fs process) flags
      ∙ committed_stays last.change last.gains s.dumpable owner.process process (differs_by s owner last) clear
      (λ file executed.
      executes label place slot count file p last owner commits (found_first s.prepared label place p first at) (ap (task_of s) own ∙ found) executed answered)

  creates : (task child other n : ℕ) → Creation s event task child other Made → is_dumpable Made.1.dumpable process ≡ false
  creates task child other n (BySpawn owner is found of broadcasts flags) = ap (λ fs. is_dumpable fs process) flags ∙ clear
  creates task child other n (ByFork owner is found unused broadcasts flags) =
      ap (λ fs. is_dumpable fs process) flags
      ∙ with_stays s.dumpable other process _ (has_other s.tasks process other has (ap is_some unused)) clear

  -- a first task
  begins : (other : ℕ) → is_dumpable (flags_begun s other) process ≡ false
  begins other =
      elim (is_some (find (is_thread_of other) s.tasks)) as
      (λ b. is_some (find (is_thread_of other) s.tasks) ≡ b → is_dumpable (cond b s.dumpable (with_process_flag s.dumpable other true)) process ≡ false) [
        | true ↦ λ live. clear
        | false ↦ λ none. with_stays s.dumpable other process true (has_other s.tasks process other has none) clear
      ] refl

  leaves : (owner : Task) → is_dumpable (flags_left s owner) process ≡ false
  leaves owner =
      elim (is_some (find (is_beside owner) s.tasks)) as (λ b. is_dumpable (cond b s.dumpable (without_flag s.dumpable owner.process)) process ≡ false) [
        | true ↦ clear
        | false ↦ gone_stays s.dumpable owner.process process clear
      ]

  stays : TasksChange script s event Made → is_dumpable Made.1.dumpable process ≡ false
  stays (SameTasks same broadcasts flags) = ap (λ fs. is_dumpable fs process) flags ∙ clear
  stays (SetsFlag task value owner flag is found known same broadcasts flags) =
      ap (λ fs. is_dumpable fs process) flags
      ∙ set_stays s.dumpable owner.process process flag
      (λ own.
      value_is value flag known
      (λ one. unasked (task, is ∙ ap (λ v. Dumpable task v) one, ap (option_map (λ (t : Task). t.process)) found ∙ ap Some own))) clear
  stays (Creates task other user group ns slot is tasks creds new idle broadcasts flags) = ap (λ fs. is_dumpable fs process) flags ∙ begins other
  stays (Shares task child other parent tasks creds current new creation) = creates task child other parent.number creation
  stays (Renews task slot owner c ends tasks creds found cause) = renews task owner ends c found cause
  stays (Overrides task numbers tasks refer broadcasts flags) = ap (λ fs. is_dumpable fs process) flags ∙ clear
  stays (Fewer ends tasks creds (ByExit task owner is found ending idle broadcasts flags)) = ap (λ fs. is_dumpable fs process) flags ∙ leaves owner
  stays (Fewer ends tasks creds (ByAbort number task cause broadcast is ending broadcasts answered flags)) =
      ap (λ fs. is_dumpable fs process) flags ∙ gone_stays s.dumpable broadcast.process process clear

pub flag_stays_clear : FlagStaysClear
flag_stays_clear script s line event process sound are has clear unasked unexecuted =
    stays script s line event process sound are has clear unasked unexecuted (changes script s line event).tasks
