-- The events that a line makes, one after another.
use Rattle.std.specs.Prelude.{◌≡◌, ℕ, ◌+◌, ◌-◌, ◌*◌, ◌==◌, Bool, true, false, not, nat_lt, Some}
use Rattle.std.specs.Prelude.{None, List, fold, if◌then◌else◌}
use Rattle.std.specs.declared.option.Option.{Option}
use Rattle.std.specs.Option.{option_and_then, option_map_or}
use Rattle.cred_ids.specs.Limits.{FIRST_LINE_LABEL, LABELS_A_LINE, TRIES}
use Rattle.cred_event.specs.declared.content.Stage.{Stage}
use Rattle.cred_event.specs.declared.content.Stage.TheVariants.{First, Acting, Asking, Opening}
use Rattle.cred_event.specs.declared.content.Stage.TheVariants.{Calling}
use Rattle.cred_event.specs.declared.content.Stage.TheVariants.{TakingTarget, Signalling, Tracing}
use Rattle.cred_event.specs.declared.content.Stage.TheVariants.{ReleasingTarget, Preparing}
use Rattle.cred_event.specs.declared.content.Stage.TheVariants.{Altering, Committing, Aborting}
use Rattle.cred_event.specs.declared.content.Stage.TheVariants.{Overriding, TakingAccess}
use Rattle.cred_event.specs.declared.content.Stage.TheVariants.{ReleasingAccess, Reverting}
use Rattle.cred_event.specs.declared.content.Stage.TheVariants.{Releasing, Retrying}
use Rattle.cred_event.specs.declared.event.Event.{Event}
use Rattle.cred_event.specs.declared.event.Event.TheVariants.{Take, TakeFile, Ask, Release, Prepare}
use Rattle.cred_event.specs.declared.event.Event.TheVariants.{Alter, Commit, Abort, Override}
use Rattle.cred_event.specs.declared.event.Event.TheVariants.{Revert, Begin, Act, OpenFile}
use Rattle.cred_event.specs.declared.event.Event.TheVariants as event
use Rattle.cred_event.specs.declared.event.Change.TheVariants as change
use Rattle.cred_event.specs.declared.event.Query.TheVariants.{Capable, Check}
use Rattle.cred_event.specs.declared.event.Side.TheVariants.{Subjective, Objective}
use Rattle.cred_event.specs.declared.answer.Answer.{Answer}
use Rattle.cred_event.specs.declared.answer.Answer.TheVariants.{Began, Acted, Stale}
use Rattle.cred_event.specs.declared.content.Content.{Content}
use Rattle.cred_event.specs.declared.content.Content.TheVariants.{Nothing, One, Id, Question, Open}
use Rattle.cred_event.specs.declared.content.Content.TheVariants.{Fcap, Signal, Ptrace, Change}
use Rattle.cred_event.specs.declared.content.Content.TheVariants.{Access, OnFile}
use Rattle.cred_event.specs.declared.content.FileCall.{FileCall}
use Rattle.cred_event.specs.declared.content.FileCall.TheVariants as call
use Rattle.cred_event.specs.Answers.{is_ok}

-- The labels that a line takes for itself: for what it holds first; for the new credential that it
-- prepares, or the credential of the task that it signals or looks into; and for what access(2)
-- asks by.
abbrev pub hold_label : ℕ → ℕ
hold_label line = FIRST_LINE_LABEL + LABELS_A_LINE * line

abbrev pub new_label : ℕ → ℕ
new_label line = hold_label line + 1

abbrev pub target_label : ℕ → ℕ
target_label line = hold_label line + 1

abbrev pub access_label : ℕ → ℕ
access_label line = hold_label line + 2

-- How far a line has come: the stage that comes next, or none where it has ended, and which try
-- this is, from 1.
pub record Course : Type 0 where
  pub line : ℕ
  pub stage : Option Stage
  pub tries : ℕ

-- the line makes events
abbrev pub makes_events : Content → Bool
makes_events Nothing = false
makes_events content = true

-- a line before its first event
abbrev pub start : ℕ → Content → Course
start line content = record {
  line = line;
  stage = if makes_events content then Some First else None;
  tries = 1;
}

-- the event of a call on a file, which the hold decides
abbrev pub calling : ℕ → FileCall → Event
calling hold (call.Chown file owner group) = event.Chown hold file owner group
calling hold (call.Chmod file mode) = event.Chmod hold file mode
calling hold (call.SetAttr file attr) = event.SetAttr hold file attr
calling hold (call.Stat file) = event.Stat hold file

-- The event of a stage. A line takes hold of the credential that its task acts with, does what it
-- is about, and drops it.
abbrev pub event_in : ℕ → Content → Stage → Option Event
event_in line (One event) First = Some event
-- an id call: the task makes its step, and then the other threads of its process, one after another
event_in line (Id task call) First = Some (Begin task call)
event_in line (Id task call) Acting = Some (Act line)
-- a question is asked of the hold
event_in line (Question task query) First = Some (Take (hold_label line) task Subjective)
event_in line (Question task query) Asking = Some (Ask (hold_label line) query)
event_in line (Question task query) Releasing = Some (Release (hold_label line))
-- a file is opened by the hold
event_in line (Open task file want fd) First = Some (Take (hold_label line) task Subjective)
event_in line (Open task file want fd) Opening = Some (OpenFile (hold_label line) file want fd)
event_in line (Open task file want fd) Releasing = Some (Release (hold_label line))
-- what the opener of an open file may do is asked of its credential
event_in line (Fcap task fd cap) First = Some (TakeFile (hold_label line) fd)
event_in line (Fcap task fd cap) Asking = Some (Ask (hold_label line) (Capable cap))
event_in line (Fcap task fd cap) Releasing = Some (Release (hold_label line))
-- a signal is decided on the hold and on the credential by which the target is acted on
event_in line (Signal task to) First = Some (Take (hold_label line) task Subjective)
event_in line (Signal task to) TakingTarget = Some (Take (target_label line) to Objective)
event_in line (Signal task to) Signalling =
    Some (event.Signal task (hold_label line) to (target_label line))
event_in line (Signal task to) ReleasingTarget = Some (Release (target_label line))
event_in line (Signal task to) Releasing = Some (Release (hold_label line))
-- a question whether the task may look into another is decided on the same two
event_in line (Ptrace task to mode) First = Some (Take (hold_label line) task Subjective)
event_in line (Ptrace task to mode) TakingTarget = Some (Take (target_label line) to Objective)
event_in line (Ptrace task to mode) Tracing =
    Some (event.Ptrace task (hold_label line) to (target_label line) mode)
event_in line (Ptrace task to mode) ReleasingTarget = Some (Release (target_label line))
event_in line (Ptrace task to mode) Releasing = Some (Release (hold_label line))
-- a new credential is prepared from the hold, changed, and committed
event_in line (Change task change) First = Some (Take (hold_label line) task Subjective)
event_in line (Change task change) Preparing =
    Some (Prepare (new_label line) task (hold_label line))
event_in line (Change task change) Altering = Some (Alter (new_label line) change)
event_in line (Change task change) Committing = Some (Commit (new_label line))
event_in line (Change task change) Aborting = Some (Abort (new_label line))
event_in line (Change task change) Releasing = Some (Release (hold_label line))
event_in line (Change task change) Retrying = Some (Release (hold_label line))
-- access(2): the credential that it asks by is prepared from the hold, and overrides the task's own
-- while the file is checked
event_in line (Access task file want) First = Some (Take (hold_label line) task Subjective)
event_in line (Access task file want) Preparing =
    Some (Prepare (new_label line) task (hold_label line))
event_in line (Access task file want) Altering = Some (Alter (new_label line) change.Access)
event_in line (Access task file want) Overriding = Some (Override task (new_label line))
event_in line (Access task file want) TakingAccess =
    Some (Take (access_label line) task Subjective)
event_in line (Access task file want) Asking = Some (Ask (access_label line) (Check file want))
event_in line (Access task file want) ReleasingAccess = Some (Release (access_label line))
event_in line (Access task file want) Reverting = Some (Revert task)
event_in line (Access task file want) Aborting = Some (Abort (new_label line))
event_in line (Access task file want) Releasing = Some (Release (hold_label line))
-- a file is changed, or looked at, by the hold
event_in line (OnFile task call) First = Some (Take (hold_label line) task Subjective)
event_in line (OnFile task call) Calling = Some (calling (hold_label line) call)
event_in line (OnFile task call) Releasing = Some (Release (hold_label line))
event_in line content stage = None

-- the next event of a line with this content, or none where it has ended
abbrev pub event_at : Content → Course → Option Event
event_at content course = option_and_then (event_in course.line content) course.stage

-- the one stage after an answer that is no refusal, and the other after one that is
abbrev pub either : Answer → Stage → Stage → Option Stage
either answer next otherwise = Some (if is_ok answer then next else otherwise)

-- the answer says that some threads still wait
abbrev pub some_wait : Answer → Bool
some_wait (Began cred slot left) = not (left == 0)
some_wait (Acted task cred slot left) = not (left == 0)
some_wait answer = false

-- The stage after an answer. Where the first hold is refused the line ends. A refusal after that
-- leads to the end of what was begun, the newest first: what overrides, what is prepared, what is
-- held.
abbrev pub next_stage : Content → Stage → Answer → Option Stage
next_stage (Id task call) First answer = if some_wait answer then Some Acting else None
next_stage (Id task call) Acting answer = if some_wait answer then Some Acting else None
next_stage (Question task query) First answer = if is_ok answer then Some Asking else None
next_stage (Question task query) Asking answer = Some Releasing
next_stage (Open task file want fd) First answer = if is_ok answer then Some Opening else None
next_stage (Open task file want fd) Opening answer = Some Releasing
next_stage (Fcap task fd cap) First answer = if is_ok answer then Some Asking else None
next_stage (Fcap task fd cap) Asking answer = Some Releasing
next_stage (Signal task to) First answer = if is_ok answer then Some TakingTarget else None
next_stage (Signal task to) TakingTarget answer = either answer Signalling Releasing
next_stage (Signal task to) Signalling answer = Some ReleasingTarget
next_stage (Signal task to) ReleasingTarget answer = Some Releasing
next_stage (Ptrace task to mode) First answer = if is_ok answer then Some TakingTarget else None
next_stage (Ptrace task to mode) TakingTarget answer = either answer Tracing Releasing
next_stage (Ptrace task to mode) Tracing answer = Some ReleasingTarget
next_stage (Ptrace task to mode) ReleasingTarget answer = Some Releasing
next_stage (Change task change) First answer = if is_ok answer then Some Preparing else None
next_stage (Change task change) Preparing answer = either answer Altering Releasing
next_stage (Change task change) Altering answer = either answer Committing Aborting
next_stage (Change task change) Committing answer = either answer Releasing Aborting
next_stage (Change task change) Aborting answer = Some Releasing
next_stage (Change task change) Retrying answer = Some First
next_stage (Access task file want) First answer = if is_ok answer then Some Preparing else None
next_stage (Access task file want) Preparing answer = either answer Altering Releasing
next_stage (Access task file want) Altering answer = Some Overriding
next_stage (Access task file want) Overriding answer = either answer TakingAccess Aborting
next_stage (Access task file want) TakingAccess answer = either answer Asking Reverting
next_stage (Access task file want) Asking answer = Some ReleasingAccess
next_stage (Access task file want) ReleasingAccess answer = Some Reverting
next_stage (Access task file want) Reverting answer = Some Releasing
next_stage (Access task file want) Aborting answer = Some Releasing
next_stage (OnFile task call) First answer = if is_ok answer then Some Calling else None
next_stage (OnFile task call) Calling answer = Some Releasing
next_stage content stage answer = None

-- The commit came too late: the task has another credential by now, and what was prepared is gone.
abbrev pub is_stale : Option Stage → Answer → Bool
is_stale (Some Committing) (Stale base now) = true
is_stale stage answer = false

-- The next try begins with the release of the hold. After the last one the line ends with it.
abbrev pub next_try : Course → Course
next_try course =
    if nat_lt course.tries TRIES
    then record course { stage = Some Retrying; tries = course.tries + 1 }
    else record course { stage = Some Releasing }

-- how far the line has come after one more answer
abbrev pub after : Content → Course → Answer → Course
after content course answer =
    if is_stale course.stage answer then next_try course
    else record course {
      stage = option_and_then (λ stage. next_stage content stage answer) course.stage;
    }

-- How many events a try may still have from this stage on, at most. The release before another try
-- counts with that try.
abbrev pub most : Stage → ℕ
most Retrying = 10
most First = 9
most Preparing = 8
most Altering = 7
most Overriding = 6
most TakingAccess = 5
most Asking = 4
most ReleasingAccess = 3
most Reverting = 2
most TakingTarget = 4
most Signalling = 3
most Tracing = 3
most ReleasingTarget = 2
most Committing = 3
most Opening = 2
most Calling = 2
most Aborting = 2
most Acting = 1
most Releasing = 1

-- more events than one try has, with the release before it
abbrev pub TRY_EVENTS : ℕ
TRY_EVENTS = 11

-- how many events the line may still make, at most
abbrev pub left : Course → ℕ
left course =
    option_map_or (λ stage. TRY_EVENTS * (TRIES - course.tries) + most stage) course.stage 0

-- The line makes no more events than `left` says of its course. An id call has no such bound: each
-- thread of the process follows it, however many there are by then.
abbrev pub is_bounded : Content → Bool
is_bounded (Id task call) = false
is_bounded content = true

-- how far the line of this number, with this content, has come after these answers
abbrev pub leads : ℕ → Content → List Answer → Course
leads line content answers = fold (after content) (start line content) answers

-- The course is how far its line, with this content, comes after some answers.
pub record Leads (content : Content) (course : Course) : Type 0 where
  pub answers : List Answer
  pub is : course ≡ leads course.line content answers
