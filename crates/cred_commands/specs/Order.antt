-- A run in which all lines run whole, in the script's order, and whose journal isn't kept.
use Rattle.std.specs.Prelude.{◌≡◌, ℕ, ◌+◌, ◌-◌, ◌*◌, ◌<◌, ◌≤◌, List, [], ◌++◌, length}
use Rattle.std.specs.Prelude.{slice_get, Some, None, IfSome}
use Rattle.cred_event.specs.declared.entry.Entry.{Entry}
use Rattle.cred_model.specs.Script.{Script, Line}
use Rattle.cred_model.specs.State.{State}
use Rattle.cred_model.specs.Like.{IsLike}
use Rattle.cred_model.specs.Course.{Course, leads}
use Rattle.cred_model.specs.Journal.{IsInOrder, IsSequence, answers_of, next_event, replay}
use Rattle.cred_course.specs.Cursor.{LINE_EVENTS}
use Rattle.cred_course.specs.Waiting.{waiting}

-- the line at this place has ended
abbrev pub LineHasEnded : Script → List Entry → ℕ → Type 0
LineHasEnded script journal k =
    IfSome (slice_get script.lines k) (λ line. next_event journal (k + 1) line.content ≡ None)

-- the line at this place has made no event
abbrev pub NotBegun : Script → List Entry → ℕ → Type 0
NotBegun script journal k =
    IfSome (slice_get script.lines k) (λ line. answers_of journal (k + 1) ≡ [])

-- The first `past` lines have ended, and no later one has begun.
pub record IsPast (script : Script) (journal : List Entry) (past : ℕ) : Type 0 where
  pub ended : (k : ℕ) → k < past → LineHasEnded script journal k
  pub later : (k : ℕ) → past ≤ k → NotBegun script journal k

-- The course is that of this line, which has come as far as the course; the lines before it have
-- ended, and no later one has begun.
pub record StandsAt (script : Script) (journal : List Entry) (line : Line) (course : Course)
    : Type 0 where
  pub place : ℕ
  pub number : course.line ≡ place + 1
  pub here : slice_get script.lines place ≡ Some line
  pub ended : (k : ℕ) → k < place → LineHasEnded script journal k
  pub later : (k : ℕ) → place < k → NotBegun script journal k
  pub stands : course ≡ leads (place + 1) line.content (answers_of journal (place + 1))

-- The state has come as far as the journal, in which the first `past` lines have run whole and in
-- order, and nothing else.
pub record IsAfter (script : Script) (journal : List Entry) (past : ℕ) (state : State)
    : Type 0 where
  pub order : IsInOrder script journal
  pub is : IsPast script journal past
  pub like : IsLike state (replay script journal)

-- the state has come as far as some journal
abbrev pub HasRun : Script → ℕ → State → Type 0
HasRun script past state = (journal : List Entry) × IsAfter script journal past state

-- how many entries are still to be made, at most, where the first `past` lines have run
abbrev pub most_left : Script → ℕ → State → ℕ
most_left script past state = LINE_EVENTS * (length script.lines - past) + waiting state

-- One line more has run, whatever the journal was before it, and these are all entries.
pub record RunsOn
    (script : Script) (past : ℕ) (before after : State) (had has : List Entry)
    : Type 0 where
  pub made : List Entry
  pub has_is : has ≡ had ++ made
  pub few : length made + most_left script (past + 1) after ≤ most_left script past before
  pub leads : (journal : List Entry) → IsAfter script journal past before
      → IsAfter script (journal ++ made) (past + 1) after

-- the journal begins one in which all lines run whole and in order
pub record BeginsSequence (script : Script) (journal : List Entry) : Type 0 where
  pub more : List Entry
  pub sequence : IsSequence script (journal ++ more)
