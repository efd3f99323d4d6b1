-- Fewer steps are left after each event that is entered.
use Rattle.std.proofs.Common.{◌≡◌, ℕ, ◌+◌, ◌*◌, ◌-◌, ◌<◌, ◌≤◌, cond, List, [], ◌∷◌, ◌++◌, length, Option, Some, None, is_some, true, false, refl, sym, ap, ◌∙◌}
use Rattle.std.proofs.Common.{subst, arith}
use Rattle.std.specs.Option.{IfSome, option_and_then, option_map_or}
use Rattle.cred_ids.specs.Limits.{TRIES, TASKS}
use Rattle.cred_event.specs.declared.content.Content.{Content}
use Rattle.cred_event.specs.declared.content.Content.TheVariants.{One, Id, Question, Open, Fcap, Signal, Ptrace, Change, Access, OnFile}
use Rattle.cred_event.specs.declared.content.Stage.{Stage}
use Rattle.cred_event.specs.declared.content.Stage.TheVariants.{First, Acting, Asking, Opening, Calling, TakingTarget, Signalling, Tracing, ReleasingTarget}
use Rattle.cred_event.specs.declared.content.Stage.TheVariants.{Preparing, Altering, Committing, Aborting, Overriding, TakingAccess, ReleasingAccess, Reverting}
use Rattle.cred_event.specs.declared.content.Stage.TheVariants.{Releasing, Retrying}
use Rattle.cred_event.specs.declared.event.Event.{Event}
use Rattle.cred_event.specs.declared.event.Event.TheVariants.{Begin, Act, Spawn}
use Rattle.cred_event.specs.declared.answer.Answer.{Answer}
use Rattle.cred_event.specs.declared.entry.Entry.{Entry}
use Rattle.cred_record.specs.declared.id_call.IdCall.{IdCall}
use Rattle.cred_model.specs.Script.{Script, Line}
use Rattle.cred_model.specs.Course as model
use Rattle.cred_event.specs.declared.content.FileCall.{FileCall}
use Rattle.cred_event.specs.declared.content.FileCall.TheVariants.{Chown, Chmod, SetAttr, Stat}
use Rattle.cred_model.specs.Course.{Course, Leads, TRY_EVENTS, hold_label, calling, event_in, event_at, is_bounded}
use Rattle.cred_model.specs.Course.{is_stale, most, next_stage, next_try, some_wait}
use Rattle.cred_model.specs.Journal.{entry_of, replay}
use Rattle.cred_model.specs.Step.{step}
use Rattle.cred_model.proofs.Courses.{after_line, leads_on}
use Rattle.cred_model.proofs.Journals.{replay-push}
use Rattle.cred_script.specs.Lines.{line_at}
use Rattle.cred_sound.proofs.TaskCount.{few_after}
use Rattle.cred_sound.proofs.Sound.{sound_after}
use Rattle.cred_course.specs.Cursor.{left_at, new_waiters, new_waiters_at}
use Rattle.cred_course.specs.Waiting.{waiting}
use Rattle.cred_course.proofs.WaitingSteps.{act_lowers, more_wait, step_waits}

-- ---- no more begin to wait with a line's event than its course says

few_more : (event : Event) → more_wait event ≤ 64
few_more (Begin task call) = omega arith
few_more (Spawn task child) = omega arith
few_more event = omega arith

calling_more : (hold : ℕ) (call : FileCall) → more_wait (calling hold call) ≤ 0
calling_more hold (Chown file owner group) = omega arith
calling_more hold (Chmod file mode) = omega arith
calling_more hold (SetAttr file attr) = omega arith
calling_more hold (Stat file) = omega arith

more_may : (line : ℕ) (content : Content) (stage : Stage) → IfSome (event_in line content stage) (λ event. more_wait event ≤ new_waiters content (Some stage))
more_may line (One event) First = few_more event
more_may line (Id task call) First = omega arith
more_may line (Id task call) Acting = omega arith
more_may line (Question task query) First = omega arith
more_may line (Question task query) Asking = omega arith
more_may line (Question task query) Releasing = omega arith
more_may line (Open task file want fd) First = omega arith
more_may line (Open task file want fd) Opening = omega arith
more_may line (Open task file want fd) Releasing = omega arith
more_may line (Fcap task fd wanted) First = omega arith
more_may line (Fcap task fd wanted) Asking = omega arith
more_may line (Fcap task fd wanted) Releasing = omega arith
more_may line (Signal task to) First = omega arith
more_may line (Signal task to) TakingTarget = omega arith
more_may line (Signal task to) Signalling = omega arith
more_may line (Signal task to) ReleasingTarget = omega arith
more_may line (Signal task to) Releasing = omega arith
more_may line (Ptrace task to mode) First = omega arith
more_may line (Ptrace task to mode) TakingTarget = omega arith
more_may line (Ptrace task to mode) Tracing = omega arith
more_may line (Ptrace task to mode) ReleasingTarget = omega arith
more_may line (Ptrace task to mode) Releasing = omega arith
more_may line (Change task change) First = omega arith
more_may line (Change task change) Preparing = omega arith
more_may line (Change task change) Altering = omega arith
more_may line (Change task change) Committing = omega arith
more_may line (Change task change) Aborting = omega arith
more_may line (Change task change) Releasing = omega arith
more_may line (Change task change) Retrying = omega arith
more_may line (Access task file want) First = omega arith
more_may line (Access task file want) Preparing = omega arith
more_may line (Access task file want) Altering = omega arith
more_may line (Access task file want) Overriding = omega arith
more_may line (Access task file want) TakingAccess = omega arith
more_may line (Access task file want) Asking = omega arith
more_may line (Access task file want) ReleasingAccess = omega arith
more_may line (Access task file want) Reverting = omega arith
more_may line (Access task file want) Aborting = omega arith
more_may line (Access task file want) Releasing = omega arith
more_may line (OnFile task call) First = omega arith
more_may line (OnFile task call) Calling = calling_more (hold_label line) call
more_may line (OnFile task call) Releasing = omega arith
more_may line content stage = tt

-- ---- a course and those that wait

-- what a course leaves to do, without the steps of those that wait already
abbrev ahead : Content → Course → ℕ
ahead content course = model.left course + new_waiters content course.stage

-- the course after an answer at this stage
abbrev after_stage : Content → Course → Option Stage → Answer → Course
after_stage content course stage answer =
    cond (is_stale stage answer) (next_try course) (record course { stage = option_and_then (λ s. next_stage content s answer) stage })

after_is : (content : Content) (course : Course) (stage : Stage) (answer : Answer) → course.stage ≡ Some stage
    → model.after content course answer ≡ after_stage content course (Some stage) answer
after_is content course stage answer here = ap (λ o. after_stage content course o answer) here

ahead_is : (content : Content) (course : Course) (stage : Stage) → course.stage ≡ Some stage
    → ahead content course ≡ TRY_EVENTS * (TRIES - course.tries) + most stage + new_waiters content (Some stage)
ahead_is content course stage here =
    ap (λ o. option_map_or (λ stage. TRY_EVENTS * (TRIES - course.tries) + most stage) o 0 + new_waiters content o) here

-- What an event does to the number of those that wait: it was so many, and is so many now.
record Waits (event : Event) (answer : Answer) (before now : ℕ) : Type 0 where
  raised : now ≤ before + more_wait event
  lowered : (number : ℕ) → event ≡ Act number → some_wait answer ≡ true → now < before

-- a line whose events are bounded, after which nobody is to begin to wait
bounded_falls : (content : Content) (course : Course) (stage : Stage) (event : Event) (answer : Answer) (before now : ℕ)
    → course.stage ≡ Some stage → event_in course.line content stage ≡ Some event → Leads content course
    → is_bounded content ≡ true → new_waiters content (model.after content course answer).stage ≡ 0 → Waits event answer before now
    → ahead content (model.after content course answer) + now < ahead content course + before
bounded_falls content course stage event answer before now here is at bounded quiet waits =
    let going : is_some course.stage ≡ true = ap is_some here in
    let fell = (leads_on content course answer (Some stage) here going at).falls bounded in
    let few : more_wait event ≤ new_waiters content (Some stage)
    = subst (λ o. IfSome o (λ e. more_wait e ≤ new_waiters content (Some stage))) is (more_may course.line content stage) in
    let may : new_waiters content course.stage ≡ new_waiters content (Some stage) = ap (new_waiters content) here in
    omega (arith, fell, quiet, few, may, waits.raised)

one_falls : (only : Event) (course : Course) (stage : Stage) (event : Event) (answer : Answer) (before now : ℕ)
    → course.stage ≡ Some stage → event_in course.line (One only) stage ≡ Some event → Leads (One only) course → Waits event answer before now
    → ahead (One only) (model.after (One only) course answer) + now < ahead (One only) course + before
one_falls only course First event answer before now here is at waits =
    bounded_falls (One only) course First event answer before now here is at refl
    (ap (λ (c : Course). new_waiters (One only) c.stage) (after_is (One only) course First answer here)) waits
one_falls only course stage event answer before now here is at waits = cc

-- where threads wait the line goes on, else it ends
id_falls : (task : ℕ) (call : IdCall) (course : Course) (stage : Stage) (event : Event) (answer : Answer) (before now : ℕ)
    → course.stage ≡ Some stage → event_in course.line (Id task call) stage ≡ Some event → Waits event answer before now
    → ahead (Id task call) (model.after (Id task call) course answer) + now < ahead (Id task call) course + before
id_falls task call course First event answer before now here is waits =
    let content = Id task call in
    let same : Begin task call ≡ event = cc in
    let most : more_wait event ≡ TASKS = ap more_wait (sym same) in
    let was = ahead_is content course First here in
    subst (λ c. ahead content c + now < ahead content course + before) (sym (after_is content course First answer here))
    (elim (some_wait answer) as (λ b. ahead content (record course { stage = cond b (Some Acting) None }) + now < ahead content course + before) [
      | true ↦ omega (arith, was, most, waits.raised)
      | false ↦ omega (arith, was, most, waits.raised)
    ])
id_falls task call course Acting event answer before now here is waits =
    let content = Id task call in
    let same : Act course.line ≡ event = cc in
    let none : more_wait event ≡ 0 = ap more_wait (sym same) in
    let was = ahead_is content course Acting here in
    subst (λ c. ahead content c + now < ahead content course + before) (sym (after_is content course Acting answer here))
    (elim (some_wait answer) as
    (λ b. some_wait answer ≡ b → ahead content (record course { stage = cond b (Some Acting) None }) + now < ahead content course + before) [
      | true ↦ λ left. omega (arith, was, waits.lowered course.line (sym same) left)
      | false ↦ λ left. omega (arith, was, none, waits.raised)
    ] refl)
id_falls task call course stage event answer before now here is waits = cc

content_falls : (content : Content) (course : Course) (stage : Stage) (event : Event) (answer : Answer) (before now : ℕ)
    → course.stage ≡ Some stage → event_in course.line content stage ≡ Some event → Leads content course → Waits event answer before now
    → ahead content (model.after content course answer) + now < ahead content course + before
content_falls (One only) course stage event answer before now here is at waits =
    one_falls only course stage event answer before now here is at waits
content_falls (Id task call) course stage event answer before now here is at waits =
    id_falls task call course stage event answer before now here is waits
content_falls content course stage event answer before now here is at waits =
    bounded_falls content course stage event answer before now here is at refl refl waits

-- ---- a step

event_waits : (script : Script) (journal : List Entry) (line : ℕ) (event : Event)
    → let made = step script (replay script journal) line event in
    Waits event made.0 (waiting (replay script journal)) (waiting made.1)
event_waits script journal line event =
    let s = replay script journal in
    record {
      raised = step_waits script s line event (sound_after script journal) (few_after script journal);
      lowered = λ number is.
          subst (λ e. some_wait (step script s line e).0 ≡ true → waiting (step script s line e).1 < waiting s) (sym is)
          (act_lowers script s line number);
    }

may_wait_here : (script : Script) (course : Course) (line : Line) → line_at script course.line ≡ Some line
    → new_waiters_at script course ≡ new_waiters line.content course.stage
may_wait_here script course line is = ap (λ o. option_map_or (λ (l : Line). new_waiters l.content course.stage) o 0) is

pub step_falls : (script : Script) (journal : List Entry) (course : Course) (stage : Stage) (line : Line) (event : Event)
    → let entry = entry_of script journal (record { line = course.line; event = event }) in
    course.stage ≡ Some stage → line_at script course.line ≡ Some line → Leads line.content course → event_at line.content course ≡ Some event
    → left_at script (Some (model.after line.content course entry.answer)) + waiting (replay script (journal ++ entry ∷ []))
    < left_at script (Some course) + waiting (replay script journal)
step_falls script journal course stage line event here found at due =
    let entry : Entry = entry_of script journal (record { line = course.line; event = event }) in
    let next = model.after line.content course entry.answer in
    let s = replay script journal in
    let made = step script s course.line event in
    let is : event_in course.line line.content stage ≡ Some event
    = ap (option_and_then (event_in course.line line.content)) (sym here) ∙ due in
    let fell = content_falls line.content course stage event made.0 (waiting s) (waiting made.1) here is at
    (event_waits script journal course.line event) in
    let same = after_line line.content course entry.answer in
    let now : waiting (replay script (journal ++ entry ∷ [])) ≡ waiting made.1 = ap waiting (replay-push script journal entry) in
    let may = may_wait_here script course line found in
    let may_next = may_wait_here script next line (ap (line_at script) same ∙ found) in
    let lines : length script.lines - next.line ≡ length script.lines - course.line = ap (λ n. length script.lines - n) same in
    omega (arith, fell, now, may, may_next, lines)
