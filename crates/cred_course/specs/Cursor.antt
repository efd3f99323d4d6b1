-- How far the lines of a lane have run, which come whole, one after another.
use Rattle.std.specs.Prelude.{◌≡◌, ℕ, ◌+◌, ◌-◌, ◌*◌, ◌<◌, ◌≤◌, ◌==◌, Bool, true, List, [], length}
use Rattle.std.specs.Prelude.{slice_get, Some, None, IfSome, is_some}
use Rattle.std.specs.declared.option.Option.{Option}
use Rattle.std.specs.Option.{option_map_or}
use Rattle.cred_ids.specs.Limits.{TASKS, TRIES}
use Rattle.cred_event.specs.declared.content.Content.{Content}
use Rattle.cred_event.specs.declared.content.Content.TheVariants.{One, Id}
use Rattle.cred_event.specs.declared.content.Stage.{Stage}
use Rattle.cred_event.specs.declared.content.Stage.TheVariants.{First}
use Rattle.cred_event.specs.declared.entry.Entry.{Entry}
use Rattle.cred_model.specs.Script.{Script, Line}
use Rattle.cred_model.specs.Course as model
use Rattle.cred_model.specs.Course.{Course, Leads, TRY_EVENTS, leads}
use Rattle.cred_model.specs.Journal.{answers_of, next_event}
use Rattle.cred_script.specs.Lines.{line_at}

-- the line is of this lane
abbrev pub is_of : ℕ → Line → Bool
is_of lane line = line.lane == lane

-- the line at this place, where it is of the lane, has ended
abbrev pub EndedInLane : Script → List Entry → ℕ → ℕ → Type 0
EndedInLane script journal lane place =
    IfSome (slice_get script.lines place)
    (λ line. is_of lane line ≡ true → next_event journal (place + 1) line.content ≡ None)

-- the line at this place, where it is of the lane, has made no event
abbrev pub NotBegunInLane : Script → List Entry → ℕ → ℕ → Type 0
NotBegunInLane script journal lane place =
    IfSome (slice_get script.lines place)
    (λ line. is_of lane line ≡ true → answers_of journal (place + 1) ≡ [])

-- All lines of the lane have ended.
pub record IsOver (script : Script) (journal : List Entry) (lane : ℕ) : Type 0 where
  pub ended : (k : ℕ) → k < length script.lines → EndedInLane script journal lane k

-- The lane's lines up to this number have ended, and no later one of them has begun.
pub record IsPastInLane (script : Script) (journal : List Entry) (lane number : ℕ) : Type 0 where
  pub ended : (k : ℕ) → k < number → EndedInLane script journal lane k
  pub later : (k : ℕ) → number ≤ k → NotBegunInLane script journal lane k

-- The course's line is one of the lane, and has come as far as the course. Those of the lane's
-- lines that stand before it have ended, and no later one has begun.
pub record StandsOn (script : Script) (journal : List Entry) (lane : ℕ) (course : Course)
    : Type 0 where
  pub place : ℕ
  pub number : course.line ≡ place + 1
  pub line : Line
  pub here : slice_get script.lines place ≡ Some line
  pub own : is_of lane line ≡ true
  pub ended : (k : ℕ) → k < place → EndedInLane script journal lane k
  pub later : (k : ℕ) → place < k → NotBegunInLane script journal lane k
  pub stands : course ≡ leads (place + 1) line.content (answers_of journal (place + 1))

-- The lane's cursor is the journal's: the course of its first line that has not ended, or none.
abbrev pub IsLaneCursor : Script → List Entry → ℕ → Option Course → Type 0
IsLaneCursor script journal lane None = IsOver script journal lane
IsLaneCursor script journal lane (Some course) =
    StandsOn script journal lane course × (is_some course.stage ≡ true)

-- how many events a line may have, at most: those of its tries, and one for each task that lives
abbrev pub LINE_EVENTS : ℕ
LINE_EVENTS = TRY_EVENTS * TRIES + TASKS

-- how many more tasks may wait after a line's next event, at most: an id call makes all other
-- threads of its task's process wait, and a new thread waits where its creator does
abbrev pub new_waiters : Content → Option Stage → ℕ
new_waiters (One event) (Some First) = TASKS
new_waiters (Id task call) (Some First) = TASKS
new_waiters content stage = 0

-- the same for the line of a course
abbrev pub new_waiters_at : Script → Course → ℕ
new_waiters_at script course =
    option_map_or (λ line. new_waiters line.content course.stage) (line_at script course.line) 0

-- How many steps may be left where the cursor stands here, at most, besides those of the tasks that
-- wait already. The step of a task that waits is not counted with its line.
abbrev pub left_at : Script → Option Course → ℕ
left_at script cursor =
    option_map_or
    (λ course.
    LINE_EVENTS * (length script.lines - course.line)
    + model.left course
    + new_waiters_at script course)
    cursor 0

-- the course is one of its line
abbrev pub IsOfLine : Script → Course → Type 0
IsOfLine script course = IfSome (line_at script course.line) (λ line. Leads line.content course)

-- From a course of one of the lane's lines on, this is the lane's cursor.
pub record MovesOnTo (script : Script) (lane : ℕ) (course : Course) (to : Option Course)
    : Type 0 where
  pub stands : (journal : List Entry) → StandsOn script journal lane course
      → IsLaneCursor script journal lane to
  pub falls : left_at script to ≤ left_at script (Some course)

-- Where the lane's lines up to this number are past, this is the lane's cursor.
pub record MovesOnFrom (script : Script) (lane number : ℕ) (to : Option Course) : Type 0 where
  pub stands : (journal : List Entry) → IsPastInLane script journal lane number
      → IsLaneCursor script journal lane to
  pub falls : left_at script to ≤ LINE_EVENTS * (length script.lines - number)
