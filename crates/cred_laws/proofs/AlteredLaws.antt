-- What a label prepares was made by the last entry that changed it, with the file that this one names
-- as it stood then.
use Rattle.std.proofs.Common.{◌≡◌, ◌≢◌, ◌==◌, ◌&&◌, inl, inr, ℕ, zero, suc, ◌+◌, ◌<◌, List, [], ◌∷◌, get_or, length, take, slice_get, Option, Some, None}
use Rattle.std.proofs.Common.{Result, Ok, Err, Bool, true, false, cond, refl, sym, ap, ◌∙◌, subst, arith}
use Rattle.std.specs.List.{All, find}
use Rattle.std.specs.Option.{IfSome}
use Rattle.std.proofs.lemmas.Bool.{cases_lt, eqb-true}
use Rattle.std.proofs.lemmas.Bool.Decides.{nat_tests}
use Rattle.std.proofs.lemmas.List.Elements.{All-map, All-push}
use Rattle.cred_record.specs.Credential.{Credential}
use Rattle.cred_record.specs.File.{File}
use Rattle.cred_record.specs.declared.refusal.Denial.{Denial}
use Rattle.cred_record.specs.declared.refusal.Denial.TheVariants.{Perm, Invalid}
use Rattle.cred_rules.specs.Adjust.{adjust}
use Rattle.cred_rules.specs.Exec.{Executed, NoExec, exec}
use Rattle.cred_rules.specs.Exec.NoExec.{MayNotExecute, SpellsNothing, GivesTooLittle}
use Rattle.cred_event.specs.declared.answer.Answer.{Answer}
use Rattle.cred_event.specs.declared.entry.Entry.{Entry}
use Rattle.cred_event.specs.declared.event.Change.{Change}
use Rattle.cred_event.specs.declared.event.Change.TheVariants.{SetFs, Adjust, Exec}
use Rattle.cred_event.specs.declared.event.Event.{Event}
use Rattle.cred_event.specs.declared.event.Event.TheVariants.{Alter}
use Rattle.cred_event.specs.Answers.{is_ok}
use Rattle.cred_model.specs.Change.{Made, by_change, made_by_rule, made_by_exec}
use Rattle.cred_model.specs.Moves.{altered_at, altered}
use Rattle.cred_model.specs.Named.{change_files}
use Rattle.cred_model.specs.Script.{Script, chain_of}
use Rattle.cred_model.specs.State.{State, SealedCred, Prepared, Changed, Numbered, numbered, prepared_of, info_of}
use Rattle.cred_model.specs.Step.{done, outcome, step}
use Rattle.cred_model.specs.Journal.{IsAnswered}
use Rattle.cred_model.proofs.Lists.{All-remove}
use Rattle.cred_sound.specs.Sound.{IsSound}
use Rattle.cred_sound.proofs.Parts.{CredsChange, PreparedChange, SamePrepared, Prepares, Alters, Ends}
use Rattle.cred_sound.proofs.Events.{changes}
use Rattle.cred_sound.proofs.Sound.{sound_after}
use Rattle.cred_laws.specs.Files.{IsLastChange, alters, has_altered}
use Rattle.cred_laws.specs.States.{state_at}
use Rattle.cred_laws.specs.Files.{IsFileOf}
use Rattle.cred_laws.specs.Made.{IsMadeFrom, AreMadeFrom}
use Rattle.cred_laws.proofs.Cases.{some_case}
use Rattle.cred_laws.proofs.MadeLaws.{bases_sealed, same_numbered, the_one}
use Rattle.cred_laws.proofs.States.{answered_at, past_end, step_at}
use Rattle.cred_laws.proofs.Unexecuted.{answer_of, answers_settled}
use Rattle.cred_ids.specs.Tests.{◌>>=◌}

-- ---- which answers of a change are refusals

abbrev IsTold : Result Made Answer → Type 0
IsTold (Ok made) = is_ok made.answer ≡ true
IsTold (Err refused) = is_ok refused ≡ false

rule_told : (r : Result Credential Denial) → IsTold (made_by_rule r)
rule_told (Ok c) = refl
rule_told (Err Perm) = refl
rule_told (Err Invalid) = refl

exec_told : (r : Result Executed NoExec) → IsTold (made_by_exec r)
exec_told (Ok e) = refl
exec_told (Err MayNotExecute) = refl
exec_told (Err SpellsNothing) = refl
exec_told (Err GivesTooLittle) = refl

change_told : (file : Option File) (chain : List ℕ) (c : Credential) (change : Change) → IsTold (by_change file chain c change)
change_told file chain c (SetFs kind id) = refl
change_told file chain c (Adjust call) = rule_told (adjust c call)
change_told None chain c (Exec place) = refl
change_told (Some file) chain c (Exec place) = exec_told (exec c file chain)
change_told file chain c change = refl

made_case : (Q : Result (Answer × State) Answer → Type 0) (r : Result Made Answer) (f : Made → Result (Answer × State) Answer) → IsTold r
    → ((refused : Answer) → is_ok refused ≡ false → Q (Err refused)) → ((made : Made) → r ≡ Ok made → is_ok made.answer ≡ true → Q (f made))
    → Q (r >>= f)
made_case Q (Ok made) f told none each = each made refl told
made_case Q (Err refused) f told none each = none refused told

-- ---- one entry more

-- an entry that doesn't change what the label prepares leaves its last change
lift : (journal : List Entry) (k label : ℕ) (change : Change) (at : ℕ) → IsLastChange journal k label change at
    → IfSome (slice_get journal k) (λ later. has_altered label later ≡ false) → IsLastChange journal (k + 1) label change at
lift journal k label change at old none =
    let below = old.before in
    record {
      before = omega arith;
      entry = old.entry;
      is = old.is;
      changes = old.changes;
      done = old.done;
      last = λ i above lt. elim (cases_lt i k) [
        | inl earlier ↦ old.last i above earlier
        | inr here ↦
            let same : k ≡ i = omega arith in
            subst (λ n. IfSome (slice_get journal n) (λ later. has_altered label later ≡ false)) same none
      ];
    }

module _ (script : Script) (journal : List Entry) (k : ℕ) (entry : Entry) (is : slice_get journal k ≡ Some entry) where
  abbrev s : State
  s = state_at script journal k

  -- what holds of a prepared label after so many entries, by the credentials that are sealed
  abbrev IsOf : ℕ → List SealedCred → Prepared → Type 0
  IsOf n creds p = IfSome p.changed (λ last. IsMadeFrom (IsFileOf script journal n p.label last.change) script (numbered creds p.base) last)

  from_lifts : (label : ℕ) (found : Option Numbered) (last : Changed) → has_altered label entry ≡ false
      → IsMadeFrom (IsFileOf script journal k label last.change) script found last
      → IsMadeFrom (IsFileOf script journal (k + 1) label last.change) script found last
  from_lifts label None last none made = tt
  from_lifts label (Some base) last none made =
      let file = made.3 in
      let none_there : IfSome (slice_get journal k) (λ later. has_altered label later ≡ false)
      = subst (λ (o : Option Entry). IfSome o (λ later. has_altered label later ≡ false)) (sym is) none in
      (made.0, made.1, made.2, (file.0, lift journal k label last.change file.0 file.1 none_there, file.2))

  changed_lifts : (creds : List SealedCred) (label base : ℕ) (o : Option Changed) → has_altered label entry ≡ false
      → IfSome o (λ last. IsMadeFrom (IsFileOf script journal k label last.change) script (numbered creds base) last)
      → IfSome o (λ last. IsMadeFrom (IsFileOf script journal (k + 1) label last.change) script (numbered creds base) last)
  changed_lifts creds label base None none made = tt
  changed_lifts creds label base (Some last) none made = from_lifts label (numbered creds base) last none made

  lifts : (creds : List SealedCred) (p : Prepared) → has_altered p.label entry ≡ false → IsOf k creds p → IsOf (k + 1) creds p
  lifts creds p = changed_lifts creds p.label p.base p.changed

  -- an entry that changes no label
  others : (event : Event) (left : List ℕ) (t : State) → ((label : ℕ) → has_altered label entry ≡ false) → ((label : ℕ) → alters event label ≡ false)
      → PreparedChange script s event left t → All (IsOf k t.creds) s.prepared → All (IsOf (k + 1) t.creds) t.prepared
  others event left t none plain (SamePrepared same) made =
      subst (All (IsOf (k + 1) t.creds)) (sym same) (λ i d lt. lifts t.creds (get_or s.prepared i d) (none (get_or s.prepared i d).label) (made i d lt))
  others event left t none plain (Prepares p prepared fresh unheld new stands free) made =
      let after = IsOf (k + 1) t.creds in
      subst (All after) (sym prepared)
      (All-push after s.prepared p (λ i d lt. lifts t.creds (get_or s.prepared i d) (none (get_or s.prepared i d).label) (made i d lt))
      (subst (λ o. IfSome o (λ last. IsMadeFrom (IsFileOf script journal (k + 1) p.label last.change) script (numbered t.creds p.base) last)) (sym fresh) tt))
  others event left t none plain (Alters label to p base answer prepared found at so acts) made =
      absurd (
      let own : (label == label) ≡ true = grind (arith, nat_tests) in
      let both : true ≡ false = sym own ∙ ap (λ e. alters e label) (sym acts) ∙ plain label in
      cc)
  others event left t none plain (Ends label place p ends prepared at found) made =
      let after = IsOf (k + 1) t.creds in
      subst (All after) (sym prepared)
      (All-remove after s.prepared place (λ i d lt. lifts t.creds (get_or s.prepared i d) (none (get_or s.prepared i d).label) (made i d lt)))

  by_others : IsSound s → AreMadeFrom (IsFileOf script journal k) script s → ((label : ℕ) → has_altered label entry ≡ false)
      → ((label : ℕ) → alters entry.event label ≡ false) → AreMadeFrom (IsFileOf script journal (k + 1)) script (step script s entry.line entry.event).1
  by_others sound made none plain =
      let c = changes script s entry.line entry.event in
      let t = (step script s entry.line entry.event).1 in
      let sealed = bases_sealed s sound in
      others entry.event c.left t none plain c.prepared (λ i d lt.
      let p = get_or s.prepared i d in
      subst (λ found. IfSome p.changed (λ last. IsMadeFrom (IsFileOf script journal k p.label last.change) script found last))
      (sym (same_numbered s entry.event c.left t c.creds p.base (sealed i d lt))) (made i d lt))

  -- an entry that may change this label
  module _ (label : ℕ) (change : Change) (event_is : entry.event ≡ Alter label change) (sound : IsSound s)
      (made : AreMadeFrom (IsFileOf script journal k) script s) where
    refused_all : is_ok entry.answer ≡ false → All (IsOf (k + 1) s.creds) s.prepared
    refused_all denied i d lt =
        let p = get_or s.prepared i d in
        let none : has_altered p.label entry ≡ false = ap (λ b. alters entry.event p.label && b) denied ∙ and_false (alters entry.event p.label) in
        lifts s.creds p none (made i d lt)
      where
        and_false : (b : Bool) → (b && false) ≡ false
        and_false true = refl
        and_false false = refl

    altered_one : (p : Prepared) (base : Numbered) (to : Changed) (answer : Answer) → prepared_of s label ≡ Some p → numbered s.creds p.base ≡ Some base
        → to.change ≡ change → is_ok entry.answer ≡ true
        → by_change (info_of s.inodes (change_files to.change)) (chain_of script base.cred.ns) base.cred to.change
        ≡ Ok (record { answer = answer; cred = to.cred; gains = to.gains })
        → (q : Prepared) → ((q.label == label) ≡ true → q ≡ p) → IsOf k s.creds q → IsOf (k + 1) s.creds (altered_at label to q)
    altered_one p base to answer found at same ok so q one old =
        elim (q.label == label) as (λ b. (q.label == label) ≡ b → IsOf (k + 1) s.creds (cond b (record q { changed = Some to }) q)) [
          | true ↦ λ test.
              let labels : q.label ≡ label = eqb-true q.label label test in
              let last : IsLastChange journal (k + 1) q.label to.change k = record {
                before = omega arith;
                entry = entry;
                is = is;
                changes = event_is ∙ ap (λ n. Alter n change) (sym labels) ∙ ap (Alter q.label) (sym same);
                done = ok;
                last = λ i above lt. absurd (omega arith);
              } in
              subst (λ (found : Option Numbered). IsMadeFrom (IsFileOf script journal (k + 1) q.label to.change) script found to)
              (sym at ∙ ap (λ (r : Prepared). numbered s.creds r.base) (sym (one test)))
              (info_of s.inodes (change_files to.change), answer, so, (k, last, refl))
          | false ↦ λ test.
              let other : (label == q.label) ≡ false = grind (arith, nat_tests) in
              let none : has_altered q.label entry ≡ false
              = ap (λ e. alters e q.label && is_ok entry.answer) event_is ∙ ap (λ b. b && is_ok entry.answer) other in
              lifts s.creds q none old
        ] refl

    altered_case : answer_of (done script s entry.line (Alter label change)) ≡ entry.answer
        → AreMadeFrom (IsFileOf script journal (k + 1)) script (outcome s (done script s entry.line (Alter label change))).1
    altered_case =
        let Q : Result (Answer × State) Answer → Type 0
        = λ r. answer_of r ≡ entry.answer → AreMadeFrom (IsFileOf script journal (k + 1)) script (outcome s r).1 in
        some_case Q (prepared_of s label) _ _ (λ answered. refused_all (ap is_ok (sym answered)))
        (λ p found. some_case Q (numbered s.creds p.base) _ _ (λ answered. refused_all (ap is_ok (sym answered)))
        (λ base at. made_case Q (by_change (info_of s.inodes (change_files change)) (chain_of script base.cred.ns) base.cred change) _
        (change_told (info_of s.inodes (change_files change)) (chain_of script base.cred.ns) base.cred change)
        (λ refused denied answered. refused_all (ap is_ok (sym answered) ∙ denied))
        (λ m so ok answered.
        let to : Changed = record { change = change; cred = m.cred; gains = m.gains } in
        All-map (IsOf (k + 1) s.creds) (altered_at label to) s.prepared (λ i d lt.
        altered_one p base to m.answer found at refl (ap is_ok (sym answered) ∙ ok) so (get_or s.prepared i d) (the_one s label p sound found i d lt)
        (made i d lt)))))

  by_event : (event : Event) → entry.event ≡ event → entry.answer ≡ (step script s entry.line entry.event).0 → IsSound s
      → AreMadeFrom (IsFileOf script journal k) script s
      → AreMadeFrom (IsFileOf script journal (k + 1)) script (step script s entry.line entry.event).1
  by_event (Alter label change) event_is answered sound made =
      let event_answered : answer_of (done script s entry.line (Alter label change)) ≡ entry.answer
      = sym (answers_settled s (done script s entry.line (Alter label change))) ∙ ap (λ e. (step script s entry.line e).0) (sym event_is) ∙ sym answered in
      subst (λ e. AreMadeFrom (IsFileOf script journal (k + 1)) script (step script s entry.line e).1) (sym event_is)
      (altered_case label change event_is sound made event_answered)
  by_event event event_is answered sound made =
      by_others sound made
      (λ label. ap (λ e. alters e label && is_ok entry.answer) event_is)
      (λ label. ap (λ e. alters e label) event_is)

-- ---- every entry

-- past the end of a journal nothing is changed
past_from : (script : Script) (journal : List Entry) (k label : ℕ) (found : Option Numbered) (last : Changed) → slice_get journal k ≡ None
    → IsMadeFrom (IsFileOf script journal k label last.change) script found last
    → IsMadeFrom (IsFileOf script journal (k + 1) label last.change) script found last
past_from script journal k label None last is made = tt
past_from script journal k label (Some base) last is made =
    let file = made.3 in
    let none : IfSome (slice_get journal k) (λ later. has_altered label later ≡ false)
    = subst (λ (o : Option Entry). IfSome o (λ later. has_altered label later ≡ false)) (sym is) tt in
    (made.0, made.1, made.2, (file.0, lift journal k label last.change file.0 file.1 none, file.2))

past_changed : (script : Script) (journal : List Entry) (k : ℕ) → slice_get journal k ≡ None → (creds : List SealedCred) (label base : ℕ) (o : Option Changed)
    → IfSome o (λ last. IsMadeFrom (IsFileOf script journal k label last.change) script (numbered creds base) last)
    → IfSome o (λ last. IsMadeFrom (IsFileOf script journal (k + 1) label last.change) script (numbered creds base) last)
past_changed script journal k is creds label base None made = tt
past_changed script journal k is creds label base (Some last) made = past_from script journal k label (numbered creds base) last is made

by_entry : (script : Script) (journal : List Entry) (k : ℕ) (o : Option Entry) → slice_get journal k ≡ o
    → IfSome o (λ entry. entry.answer ≡ (step script (state_at script journal k) entry.line entry.event).0)
    → AreMadeFrom (IsFileOf script journal k) script (state_at script journal k)
    → AreMadeFrom (IsFileOf script journal (k + 1)) script (state_at script journal (k + 1))
by_entry script journal k (Some entry) is answered made =
    subst (AreMadeFrom (IsFileOf script journal (k + 1)) script) (sym (step_at script journal k entry is))
    (by_event script journal k entry is entry.event refl answered (sound_after script (take k journal)) made)
by_entry script journal k None is answered made =
    subst (AreMadeFrom (IsFileOf script journal (k + 1)) script) (sym (past_end script journal k is))
    (λ i d lt.
    let p = get_or (state_at script journal k).prepared i d in
    past_changed script journal k is (state_at script journal k).creds p.label p.base p.changed (made i d lt))

-- In the state after so many entries each prepared credential is what the last of them that changed
-- it made, with the file as it stood then.
pub made_from_files : (script : Script) (journal : List Entry) (k : ℕ) → IsAnswered script journal
    → AreMadeFrom (IsFileOf script journal k) script (state_at script journal k)
made_from_files script journal zero answered = λ i d lt. absurd (omega arith)
made_from_files script journal (suc k) answered =
    let next : k + 1 ≡ suc k = omega arith in
    subst (λ n. AreMadeFrom (IsFileOf script journal n) script (state_at script journal n)) next
    (by_entry script journal k (slice_get journal k) refl (answered_at script journal answered k) (made_from_files script journal k answered))
