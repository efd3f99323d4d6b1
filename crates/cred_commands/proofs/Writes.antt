-- A line whose events are made one after another, the text of each entry written as it is made.
use Rattle.std.proofs.Common.{◌≡◌, ℕ, Bool, ◌+◌, ◌-◌, ◌<◌, ◌≤◌, List, [], ◌∷◌, ◌++◌, length, slice_get, Option, Some, None, Result, Ok, Err, is_some, true, false, refl, sym, ap, ◌∙◌}
use Rattle.std.proofs.Common.{subst, append_assoc, arith, if◌then◌else◌}
use Rattle.std.specs.Option.{option_map}
use Rattle.std.specs.Prelude.{⊤, not, IfOk, OnOk}
use Rattle.std.proofs.lemmas.List.{append-nil}
use Rattle.std.proofs.lemmas.List.Concat.{flat_map-append}
use Rattle.cred_event.specs.Answers.{is_ok}
use Rattle.cred_event.specs.declared.answer.Answer.{Answer}
use Rattle.cred_event.specs.declared.content.Content.{Content}
use Rattle.cred_event.specs.declared.content.Content.TheVariants.{Change, Id, One, Question}
use Rattle.cred_event.specs.declared.content.Stage.{Stage}
use Rattle.cred_event.specs.declared.content.Stage.TheVariants.{Aborting, Acting, Altering, Asking, Committing, First, Preparing, Releasing, Retrying}
use Rattle.cred_event.specs.declared.entry.Entry.{Entry}
use Rattle.cred_event.specs.declared.event.Change.{Change as Made}
use Rattle.cred_event.specs.declared.event.Event.{Event}
use Rattle.cred_event.specs.declared.event.Event.TheVariants.{Abort, Act, Alter, Ask, Begin, Commit, Prepare, Release, Take}
use Rattle.cred_event.specs.declared.event.Query.{Query}
use Rattle.cred_event.specs.declared.event.Side.TheVariants.{Subjective}
use Rattle.cred_record.specs.declared.id_call.IdCall.{IdCall}
use Rattle.cred_model.specs.Course as model
use Rattle.cred_model.specs.Course.{Course, start, event_at, hold_label, is_stale, new_label, some_wait}
use Rattle.cred_model.specs.Script.{Script, Line}
use Rattle.cred_model.specs.State.{State}
use Rattle.cred_course.specs.Cursor.{left_at}
use Rattle.cred_course.specs.Waiting.{waiting}
use Rattle.cred_report.specs.Text.{entry_text, text}
use Rattle.cred_sound.specs.Sound.{IsSound}
use Rattle.cred_commands.proofs.RunningLine.{RunsLine, GoesOn, goes_by, goes_first, goes_out, goes_sound}
use Rattle.cred_commands.specs.Order.{HasRun}
use Rattle.cred_ids.specs.Limits.{TRIES}
use Rattle.std.specs.Prelude.{nat_lt}
use Rattle.std.proofs.lemmas.Bool.Decides.{nat_tests}
use Rattle.cred_commands.specs.declared.written.CommitOutcome.{CommitOutcome}
use Rattle.cred_commands.specs.declared.written.CommitOutcome.TheVariants.{Done, Late, Refused}
use Rattle.cred_commands.specs.Writing.{commit_outcome, HasContent, WritesEvent, WritesLine, entry_with}

-- The line has come as far as the course, and the text of its entries so far was written.
pub record Writes (script : Script) (past : ℕ) (before now : State) (content : Content) (course : Course) (had has : List ℕ) : Type 0 where
  pub made : List Entry
  pub goes : RunsLine script past before now [] made content course
  pub written : has ≡ had ++ text script made

-- the line that has a content
line_in : (o : Option Line) (content : Content) → option_map (λ (line : Line). line.content) o ≡ Some content
    → (line : Line) × (o ≡ Some line) × (line.content ≡ content)
line_in None content is = cc
line_in (Some line) content is = (line, refl, cc)

-- before its first event nothing was written
pub writes_first : (script : Script) (past : ℕ) (state : State) (content : Content) (had : List ℕ) → HasContent script past content
    → Writes script past state state content (start (past + 1) content) had had
writes_first script past state content had here =
    let it = line_in (slice_get script.lines past) content here in
    record {
      made = [];
      goes = goes_first script past state [] it.0 content (start (past + 1) content) it.1 it.2 refl;
      written = sym (append-nil had);
    }

-- one event more, and its entry
pub record WritesOn (script : Script) (past : ℕ) (first before after : State) (content : Content) (course : Course) (answer : Answer) (had has : List ℕ) : Type 0 where
  pub writes : Writes script past first after content (model.after content course answer) had has
  pub falls : left_at script (Some (model.after content course answer)) + waiting after < left_at script (Some course) + waiting before

pub writes_by : (P : Answer → Type 0) (script : Script) (past : ℕ) (first before after : State) (content : Content) (course : Course) (event : Event)
    (had has longer : List ℕ)
    → HasRun script past first → Writes script past first before content course had has
    → is_some course.stage ≡ true → event_at content course ≡ Some event
    → (makes : WritesEvent P script (past + 1) event before after has longer)
    → WritesOn script past first before after content course makes.answer had longer
writes_by P script past first before after content course event had has longer run is going due makes =
    let entry : Entry = entry_with (past + 1) event makes.answer in
    let on = goes_by script past first before after [] is.made (is.made ++ entry ∷ []) content course (model.after content course makes.answer) event (past + 1)
    makes.answer run is.goes going due refl makes.does refl refl in
    let one : text script (entry ∷ []) ≡ entry_text script entry = append-nil (entry_text script entry) in
    record {
      writes = record {
        made = is.made ++ entry ∷ [];
        goes = on.goes;
        written = makes.written ∙ ap (λ bs. bs ++ entry_text script entry) is.written ∙ append_assoc had (text script is.made) (entry_text script entry)
            ∙ ap (λ bs. had ++ bs) (ap (λ bs. text script is.made ++ bs) (sym one) ∙ sym (flat_map-append (entry_text script) is.made (entry ∷ [])));
      };
      falls = on.falls;
    }

-- the line has ended
pub writes_out : (script : Script) (past : ℕ) (before now : State) (content : Content) (course : Course) (had has : List ℕ)
    → Writes script past before now content course had has → is_some course.stage ≡ false → WritesLine script past before now had has
writes_out script past before now content course had has is over = record {
  made = is.made;
  runs = goes_out script past before now [] is.made content course is.goes over;
  written = is.written;
}

pub writes_sound : (script : Script) (past : ℕ) (before now : State) (content : Content) (course : Course) (had has : List ℕ)
    → HasRun script past before → Writes script past before now content course had has → IsSound now
writes_sound script past before now content course had has run is = goes_sound script past before now [] is.made content course run is.goes

-- ---- from stage to stage

-- the line's course at a stage, by this try
abbrev pub at : ℕ → Stage → ℕ → Course
at line stage tries = record { line = line; stage = Some stage; tries = tries }

-- the stage that comes next if this holds; else the line has ended
abbrev pub at_if : ℕ → Stage → ℕ → Bool → Course
at_if line stage tries on = record { line = line; stage = if on then Some stage else None; tries = tries }

pub ok_then : {E P Q : Type 0} (r : Result (Unit {0}) E) → IfOk r (λ u. P) → (P → Q) → OnOk r Q
ok_then (Ok u) p f = f p
ok_then (Err e) p f = tt

-- the course where it goes on, and where it doesn't
pub goes_at : (script : Script) (past : ℕ) (first now : State) (content : Content) (stage : Stage) (tries : ℕ) (on : Bool) (had has : List ℕ)
    → Writes script past first now content (at_if (past + 1) stage tries on) had has → on ≡ true
    → Writes script past first now content (at (past + 1) stage tries) had has
goes_at script past first now content stage tries on had has writes is =
    subst (λ b. Writes script past first now content (at_if (past + 1) stage tries b) had has) is writes

pub ends_at : (script : Script) (past : ℕ) (first now : State) (content : Content) (stage : Stage) (tries : ℕ) (on : Bool) (had has : List ℕ)
    → Writes script past first now content (at_if (past + 1) stage tries on) had has → on ≡ false → WritesLine script past first now had has
ends_at script past first now content stage tries on had has writes off =
    writes_out script past first now content (at_if (past + 1) stage tries on) had has writes
    (ap (λ b. is_some (if b then Some stage else None)) off)

-- the course after an answer that is known
pub either_at : (script : Script) (past : ℕ) (first now : State) (content : Content) (next otherwise : Stage) (tries : ℕ) (ok b : Bool) (had has : List ℕ)
    → Writes script past first now content (record { line = past + 1; stage = Some (if ok then next else otherwise); tries = tries }) had has → ok ≡ b
    → Writes script past first now content (at (past + 1) (if b then next else otherwise) tries) had has
either_at script past first now content next otherwise tries ok b had has writes is =
    subst (λ b. Writes script past first now content (at (past + 1) (if b then next else otherwise) tries) had has) is writes

-- an event of the line leads it on
pub writes_to : (P : Answer → Type 0) (script : Script) (past : ℕ) (first before after : State) (content : Content) (course next : Course) (event : Event)
    (had has longer : List ℕ)
    → HasRun script past first → Writes script past first before content course had has
    → is_some course.stage ≡ true → event_at content course ≡ Some event
    → (makes : WritesEvent P script (past + 1) event before after has longer)
    → model.after content course makes.answer ≡ next
    → Writes script past first after content next had longer
writes_to P script past first before after content course next event had has longer run is going due makes leads =
    subst (λ c. Writes script past first after content c had longer) leads
    (writes_by P script past first before after content course event had has longer run is going due makes).writes

-- ---- a question

module _ (script : Script) (past task label : ℕ) (query : Query) (first : State) (had : List ℕ) (run : HasRun script past first)
    (here : HasContent script past (Question task query)) (labelled : label ≡ hold_label (past + 1)) where
  abbrev Asked : State → Course → List ℕ → Type 0
  Asked now course has = Writes script past first now (Question task query) course had has

  pub question_took : (ok : Bool) (now : State) (has : List ℕ)
      → WritesEvent (λ answer. ok ≡ is_ok answer) script (past + 1) (Take label task Subjective) first now had has
      → Asked now (at_if (past + 1) Asking 1 ok) has
  question_took ok now has makes =
      writes_to _ script past first first now (Question task query) (start (past + 1) (Question task query)) _ (Take label task Subjective) had had has run
      (writes_first script past first (Question task query) had here) refl (ap (λ l. Some (Take l task Subjective)) (sym labelled)) makes
      (ap (at_if (past + 1) Asking 1) (sym makes.holds))

  pub question_asked : (before now : State) (has longer : List ℕ) → Asked before (at (past + 1) Asking 1) has
      → WritesEvent (λ _. ⊤) script (past + 1) (Ask label query) before now has longer
      → Asked now (at (past + 1) Releasing 1) longer
  question_asked before now has longer writes makes =
      writes_to _ script past first before now (Question task query) (at (past + 1) Asking 1) _ (Ask label query) had has longer run writes refl
      (ap (λ l. Some (Ask l query)) (sym labelled)) makes refl

  pub question_released : (before now : State) (has longer : List ℕ) → Asked before (at (past + 1) Releasing 1) has
      → WritesEvent (λ _. ⊤) script (past + 1) (Release label) before now has longer → WritesLine script past first now had longer
  question_released before now has longer writes makes =
      writes_out script past first now (Question task query) _ had longer
      (writes_by _ script past first before now (Question task query) (at (past + 1) Releasing 1) (Release label) had has longer run writes refl
      (ap (λ l. Some (Release l)) (sym labelled)) makes).writes refl

-- ---- a line that is one event

pub one_written : (P : Answer → Type 0) (script : Script) (past : ℕ) (event : Event) (first now : State) (had has : List ℕ) → HasRun script past first
    → HasContent script past (One event) → WritesEvent P script (past + 1) event first now had has → WritesLine script past first now had has
one_written P script past event first now had has run here makes =
    writes_out script past first now (One event) _ had has
    (writes_by P script past first first now (One event) (start (past + 1) (One event)) event had had has run (writes_first script past first (One event) had here)
    refl refl makes).writes refl

-- ---- an id call

module _ (script : Script) (past task : ℕ) (call : IdCall) (first : State) (had : List ℕ) (run : HasRun script past first)
    (here : HasContent script past (Id task call)) where
  abbrev pub Called : State → Bool → List ℕ → Type 0
  Called now wait has = Writes script past first now (Id task call) (at_if (past + 1) Acting 1 wait) had has

  pub call_begun : (wait : Bool) (now : State) (has : List ℕ)
      → WritesEvent (λ answer. wait ≡ some_wait answer) script (past + 1) (Begin task call) first now had has → Called now wait has
  call_begun wait now has makes =
      writes_to _ script past first first now (Id task call) (start (past + 1) (Id task call)) _ (Begin task call) had had has run
      (writes_first script past first (Id task call) had here) refl refl makes (ap (at_if (past + 1) Acting 1) (sym makes.holds))

  pub call_followed : (wait more : Bool) (before now : State) (has longer : List ℕ) → Called before wait has → wait ≡ true
      → WritesEvent (λ answer. more ≡ some_wait answer) script (past + 1) (Act (past + 1)) before now has longer
      → Called now more longer
      × (left_at script (Some (at_if (past + 1) Acting 1 more)) + waiting now < left_at script (Some (at_if (past + 1) Acting 1 wait)) + waiting before)
  call_followed wait more before now has longer writes is makes =
      let here_on = goes_at script past first before (Id task call) Acting 1 wait had has writes is in
      let on = writes_by _ script past first before now (Id task call) (at (past + 1) Acting 1) (Act (past + 1)) had has longer run here_on refl refl makes in
      let leads : model.after (Id task call) (at (past + 1) Acting 1) makes.answer ≡ at_if (past + 1) Acting 1 more
      = ap (at_if (past + 1) Acting 1) (sym makes.holds) in (
        subst (λ c. Writes script past first now (Id task call) c had longer) leads on.writes,
        subst (λ b. left_at script (Some (at_if (past + 1) Acting 1 more)) + waiting now < left_at script (Some (at_if (past + 1) Acting 1 b)) + waiting before) (sym is)
            (subst (λ c. left_at script (Some c) + waiting now < left_at script (Some (at (past + 1) Acting 1)) + waiting before) leads on.falls),
      )

-- ---- a change

-- one stage where an answer is no refusal, and another where it is one
abbrev pub at_either : ℕ → (next otherwise : Stage) → ℕ → Bool → Course
at_either line next otherwise tries ok = record { line = line; stage = Some (if ok then next else otherwise); tries = tries }

-- the course before this try, or where none is left
abbrev pub at_try : ℕ → ℕ → Course
at_try line tries = if nat_lt TRIES tries then record { line = line; stage = None; tries = TRIES } else at line First tries

-- the course after what a commit came to
abbrev pub at_commit : ℕ → ℕ → CommitOutcome → Course
at_commit line tries Done = at line Releasing tries
at_commit line tries Late = if nat_lt tries TRIES then at line Retrying (tries + 1) else at line Releasing tries
at_commit line tries Refused = at line Aborting tries

commit_leads : (line tries task : ℕ) (change : Made) (answer : Answer)
    → model.after (Change task change) (at line Committing tries) answer ≡ at_commit line tries (commit_outcome answer)
commit_leads line tries task change answer =
    elim (is_stale (Some Committing) answer) as (λ b. (if b then model.next_try (at line Committing tries)
    else record { line = line; stage = Some (if is_ok answer then Releasing else Aborting); tries = tries })
    ≡ at_commit line tries (if b then Late else if is_ok answer then Done else Refused)) [
      | true ↦ refl
      | false ↦ elim (is_ok answer) as (λ b. record { line = line; stage = Some (if b then Releasing else Aborting); tries = tries }
          ≡ at_commit line tries (if b then Done else Refused)) [
            | true ↦ refl
            | false ↦ refl
          ]
    ]

pub next_try : (line tries : ℕ) → tries ≤ TRIES → at_try line tries ≡ at line First tries
next_try line tries few =
    let none : nat_lt TRIES tries ≡ false = grind (arith, nat_tests) in
    ap (λ b. if b then record { line = line; stage = None; tries = TRIES } else at line First tries) none

pub no_try : (line tries : ℕ) → TRIES < tries → is_some (at_try line tries).stage ≡ false
no_try line tries many =
    let past : nat_lt TRIES tries ≡ true = grind (arith, nat_tests) in
    ap (λ b. is_some (if b then record { line = line; stage = None; tries = TRIES } else at line First tries).stage) past

module _ (script : Script) (past task hold label : ℕ) (change : Made) (first : State) (had : List ℕ) (run : HasRun script past first)
    (held : hold ≡ hold_label (past + 1)) (labelled : label ≡ new_label (past + 1)) where
  abbrev pub Changing : State → Course → List ℕ → Type 0
  Changing now course has = Writes script past first now (Change task change) course had has

  pub change_took : (tries : ℕ) (ok : Bool) (before now : State) (has longer : List ℕ) → tries ≤ TRIES → Changing before (at_try (past + 1) tries) has
      → WritesEvent (λ answer. ok ≡ is_ok answer) script (past + 1) (Take hold task Subjective) before now has longer
      → Changing now (at_if (past + 1) Preparing tries ok) longer
  change_took tries ok before now has longer few writes makes =
      writes_to _ script past first before now (Change task change) (at (past + 1) First tries) _ (Take hold task Subjective) had has longer run
      (subst (λ c. Changing before c has) (next_try (past + 1) tries few) writes) refl (ap (λ l. Some (Take l task Subjective)) (sym held)) makes
      (ap (at_if (past + 1) Preparing tries) (sym makes.holds))

  pub change_prepared : (tries : ℕ) (ok : Bool) (before now : State) (has longer : List ℕ) → Changing before (at (past + 1) Preparing tries) has
      → WritesEvent (λ answer. ok ≡ is_ok answer) script (past + 1) (Prepare label task hold) before now has longer
      → Changing now (at_either (past + 1) Altering Releasing tries ok) longer
  change_prepared tries ok before now has longer writes makes =
      writes_to _ script past first before now (Change task change) (at (past + 1) Preparing tries) _ (Prepare label task hold) had has longer run writes refl
      (ap (λ l. Some (Prepare l task (hold_label (past + 1)))) (sym labelled) ∙ ap (λ h. Some (Prepare label task h)) (sym held)) makes
      (ap (at_either (past + 1) Altering Releasing tries) (sym makes.holds))

  pub change_altered : (tries : ℕ) (ok : Bool) (before now : State) (has longer : List ℕ) → Changing before (at (past + 1) Altering tries) has
      → WritesEvent (λ answer. ok ≡ is_ok answer) script (past + 1) (Alter label change) before now has longer
      → Changing now (at_either (past + 1) Committing Aborting tries ok) longer
  change_altered tries ok before now has longer writes makes =
      writes_to _ script past first before now (Change task change) (at (past + 1) Altering tries) _ (Alter label change) had has longer run writes refl
      (ap (λ l. Some (Alter l change)) (sym labelled)) makes (ap (at_either (past + 1) Committing Aborting tries) (sym makes.holds))

  pub change_committed : (tries : ℕ) (came : CommitOutcome) (before now : State) (has longer : List ℕ) → Changing before (at (past + 1) Committing tries) has
      → WritesEvent (λ answer. came ≡ commit_outcome answer) script (past + 1) (Commit label) before now has longer
      → Changing now (at_commit (past + 1) tries came) longer
  change_committed tries came before now has longer writes makes =
      writes_to _ script past first before now (Change task change) (at (past + 1) Committing tries) _ (Commit label) had has longer run writes refl
      (ap (λ l. Some (Commit l)) (sym labelled)) makes
      (commit_leads (past + 1) tries task change makes.answer ∙ ap (at_commit (past + 1) tries) (sym makes.holds))

  pub change_aborted : (tries : ℕ) (before now : State) (has longer : List ℕ) → Changing before (at (past + 1) Aborting tries) has
      → WritesEvent (λ _. ⊤) script (past + 1) (Abort label) before now has longer → Changing now (at (past + 1) Releasing tries) longer
  change_aborted tries before now has longer writes makes =
      writes_to _ script past first before now (Change task change) (at (past + 1) Aborting tries) _ (Abort label) had has longer run writes refl
      (ap (λ l. Some (Abort l)) (sym labelled)) makes refl

  -- the release that ends the line
  pub change_released : (tries : ℕ) (before now : State) (has longer : List ℕ) → Changing before (at (past + 1) Releasing tries) has
      → WritesEvent (λ _. ⊤) script (past + 1) (Release hold) before now has longer → WritesLine script past first now had longer
  change_released tries before now has longer writes makes =
      writes_out script past first now (Change task change) _ had longer
      (writes_by _ script past first before now (Change task change) (at (past + 1) Releasing tries) (Release hold) had has longer run writes refl
      (ap (λ l. Some (Release l)) (sym held)) makes).writes refl

  -- the release after a commit that came too late
  pub change_retried : (tries : ℕ) (before now : State) (has longer : List ℕ) → tries ≤ TRIES → Changing before (at_commit (past + 1) tries Late) has
      → WritesEvent (λ _. ⊤) script (past + 1) (Release hold) before now has longer → Changing now (at_try (past + 1) (tries + 1)) longer
  change_retried tries before now has longer few writes makes =
      elim (nat_lt tries TRIES) as (λ b. nat_lt tries TRIES ≡ b
      → Changing before (if b then at (past + 1) Retrying (tries + 1) else at (past + 1) Releasing tries) has → Changing now (at_try (past + 1) (tries + 1)) longer) [
        | true ↦ λ test writes.
            let left : tries + 1 ≤ TRIES = grind (arith, nat_tests) in
            writes_to _ script past first before now (Change task change) (at (past + 1) Retrying (tries + 1)) _ (Release hold) had has longer run writes refl
            (ap (λ l. Some (Release l)) (sym held)) makes (sym (next_try (past + 1) (tries + 1) left))
        | false ↦ λ test writes.
            let last : tries ≡ TRIES = grind (arith, nat_tests) in
            let past_last : nat_lt TRIES (tries + 1) ≡ true = grind (arith, nat_tests) in
            writes_to _ script past first before now (Change task change) (at (past + 1) Releasing tries) _ (Release hold) had has longer run writes refl
            (ap (λ l. Some (Release l)) (sym held)) makes
            (ap (λ n. record { line = past + 1; stage = None; tries = n }) last
            ∙ sym (ap (λ b. if b then record { line = past + 1; stage = None; tries = TRIES } else at (past + 1) First (tries + 1)) past_last))
      ] refl writes
