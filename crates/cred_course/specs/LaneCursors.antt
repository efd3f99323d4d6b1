-- How far each lane of a script has come, where the lanes take turns in any way.
use Rattle.std.specs.Prelude.{◌≡◌, ◌≤◌, ◌==◌, ◌&&◌, ℕ, Bool, not, List, slice_get, Some, None}
use Rattle.std.specs.Prelude.{⊤, is_some, if◌then◌else◌}
use Rattle.std.specs.declared.option.Option.{Option}
use Rattle.std.specs.Option.{option_and_then}
use Rattle.cred_event.specs.declared.entry.Entry.{Entry}
use Rattle.cred_model.specs.Script.{Script}
use Rattle.cred_model.specs.Course.{Course}
use Rattle.cred_course.specs.Cursor.{IsLaneCursor}

-- the lane's cursor; none past the last lane
abbrev pub cursor_of : List (Option Course) → ℕ → Option Course
cursor_of cursors lane = option_and_then (λ cursor. cursor) (slice_get cursors lane)

-- each lane's cursor is the journal's
abbrev pub AreCursors : Script → List Entry → List (Option Course) → Type 0
AreCursors script journal cursors =
    (lane : ℕ) → IsLaneCursor script journal lane (cursor_of cursors lane)

-- the lane is to wait, since a line of the setup has not ended
abbrev pub waits : List (Option Course) → ℕ → Bool
waits cursors lane = not (lane == 0) && is_some (cursor_of cursors 0)

-- The course that makes the lane's next event. All other lanes wait for the setup.
abbrev pub due_of : List (Option Course) → ℕ → Option Course
due_of cursors lane = if waits cursors lane then None else cursor_of cursors lane

-- The first stands on no later line than the second, if that stands on one.
abbrev pub IsNoLater : Option Course → Option Course → Type 0
IsNoLater None None = ⊤
IsNoLater None (Some other) = ⊥
IsNoLater (Some course) None = ⊤
IsNoLater (Some course) (Some other) = course.line ≤ other.line

-- Neither of the two lanes has an earlier line left than this one.
pub record IsEarlier (cursors : List (Option Course)) (one other lane : ℕ) : Type 0 where
  pub first : IsNoLater (cursor_of cursors lane) (cursor_of cursors one)
  pub second : IsNoLater (cursor_of cursors lane) (cursor_of cursors other)

-- no lane has a line left
abbrev pub AreOver : List (Option Course) → Type 0
AreOver cursors = (lane : ℕ) → cursor_of cursors lane ≡ None

-- The lane has a line left, and no lane has an earlier one.
pub record IsLeast (cursors : List (Option Course)) (lane : ℕ) : Type 0 where
  pub course : Course
  pub here : cursor_of cursors lane ≡ Some course
  pub least : (other : ℕ) → IsNoLater (Some course) (cursor_of cursors other)
