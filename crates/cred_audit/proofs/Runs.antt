-- A run of which a lane goes on by an event, or has none.
use Rattle.std.proofs.Common.{◌≡◌, ℕ, ◌≤◌, ◌==◌, ◌&&◌, not, cond, Bool, true, false, List, [], ◌∷◌, ◌++◌, length, set, Option, Some, None, is_some, is_none}
use Rattle.std.proofs.Common.{MatchBool, refl, sym, ap, ◌∙◌, subst, arith}
use Rattle.std.specs.List.{list_all}
use Rattle.std.specs.Option.{IfSome, option_map, option_and_then}
use Rattle.cred_ids.specs.Limits.{LINE_LIMIT}
use Rattle.cred_event.specs.declared.event.Event.{Event}
use Rattle.cred_event.specs.declared.answer.Answer.{Answer}
use Rattle.cred_event.specs.declared.entry.Entry.{Entry}
use Rattle.cred_model.specs.Script.{Script, Line}
use Rattle.cred_model.specs.State.{State, opening}
use Rattle.cred_model.specs.Step.{step}
use Rattle.cred_model.specs.Course as model
use Rattle.cred_model.specs.Course.{Course, event_at}
use Rattle.cred_model.specs.Journal.{Due, due_in, entry_of, lane_of, next, replay}
use Rattle.cred_model.specs.Like.{IsLike, IsOutcomeLike}
use Rattle.cred_model.proofs.Journals.{replay-push}
use Rattle.cred_model.proofs.Likes.{does_like, like_self}
use Rattle.cred_sound.specs.Sound.{IsSound}
use Rattle.cred_sound.proofs.Sound.{like_sound, sound_after}
use Rattle.cred_script.specs.Lines.{line_at}
use Rattle.cred_course.specs.Cursor.{IsOfLine, MovesOnTo}
use Rattle.cred_course.specs.LaneCursors.{AreCursors, cursor_of, due_of, waits}
use Rattle.cred_course.proofs.AllLanes.{is_due, no_cursor, some_cursor}
use Rattle.cred_course.proofs.Lanes.{lane_makes_due, lane_of_line, lane_of_course, SoFar-push}
use Rattle.cred_course.proofs.Turns.{next_by, next_none, next_some, stands_at, lanes_go_on}
use Rattle.cred_audit.specs.Run.{IsRunAfter, IsRun, GoesOn, RunHasEnded, IsLeft}
use Rattle.cred_audit.specs.declared.run.Run.{Run}

-- ---- where it stands

pub course_of_line : (script : Script) (run : Run) (lane : ℕ) (course : Course) → due_of run.cursors lane ≡ Some course → IsRun script run
    → IsOfLine script course
course_of_line script run lane course due is = lane_of_line script is.0 lane course (stands_at script is.0 run.cursors lane course is.1.cursors due)

pub course_goes_on : (script : Script) (run : Run) (lane : ℕ) (course : Course) → due_of run.cursors lane ≡ Some course → IsRun script run
    → is_some course.stage ≡ true
course_goes_on script run lane course due is = (stands_at script is.0 run.cursors lane course is.1.cursors due).1

-- its course makes an event
pub course_is_due : (script : Script) (run : Run) (lane : ℕ) (course : Course) → due_of run.cursors lane ≡ Some course → IsRun script run
    → is_some (option_and_then (λ (line : Line). event_at line.content course) (line_at script course.line)) ≡ true
course_is_due script run lane course due is = lane_makes_due script is.0 lane course (stands_at script is.0 run.cursors lane course is.1.cursors due)

pub run_is_sound : (script : Script) (run : Run) → IsRun script run → IsSound run.state
run_is_sound script run is = like_sound run.state (replay script is.0) is.1.state (sound_after script is.0)

-- ---- how it goes on

pub stops : (script : Script) (lane : ℕ) (run : Run) → due_of run.cursors lane ≡ None → GoesOn script lane run run None
stops script lane run none = record {
  next = λ journal after. next_none script journal run.cursors lane after.cursors none;
  leads = λ journal after. after;
}

-- the entry of an event of this line, with its answer
abbrev entry_with : ℕ → Event → Answer → Entry
entry_with line event answer = record { line = line; event = event; answer = answer }

entry_is : (script : Script) (journal : List Entry) (course : Course) (event : Event) (line : ℕ) (answer : Answer) → line ≡ course.line
    → (step script (replay script journal) line event).0 ≡ answer
    → entry_with line event answer ≡ entry_of script journal (record { line = course.line; event = event })
entry_is script journal course event line answer number is =
    ap (entry_with line event) (sym is) ∙ ap (λ n. entry_of script journal (record { line = n; event = event })) number

made : (script : Script) (before after : Run) (line : ℕ) (event : Event) (answer : Answer) (journal : List Entry) → IsRunAfter script journal before
    → IsOutcomeLike (step script before.state line event) answer after.state
    → IsOutcomeLike (step script (replay script journal) line event) answer after.state
made script before after line event answer journal is does =
    does_like script before.state (replay script journal) line event answer after.state is.state does

-- the entry is the lane's next
next_is : (script : Script) (lane : ℕ) (before after : Run) (course : Course) (event : Event) (line : ℕ) (answer : Answer)
    → due_of before.cursors lane ≡ Some course
    → option_and_then (λ (l : Line). event_at l.content course) (line_at script course.line) ≡ Some event
    → line ≡ course.line
    → IsOutcomeLike (step script before.state line event) answer after.state
    → (journal : List Entry) → IsRunAfter script journal before → next script journal lane ≡ Some (entry_with line event answer)
next_is script lane before after course event line answer due has number does journal is =
    let same = entry_is script journal course event line answer number (made script before after line event answer journal is does).answers in
    next_some script journal before.cursors lane course event is.cursors due has ∙ ap Some (sym same)

pub goes_on_by : (script : Script) (lane : ℕ) (before after : Run) (course : Course) (event : Event) (line : ℕ) (answer : Answer) (to : Option Course)
    → due_of before.cursors lane ≡ Some course
    → option_and_then (λ (l : Line). event_at l.content course) (line_at script course.line) ≡ Some event
    → line ≡ course.line
    → IsOutcomeLike (step script before.state line event) answer after.state
    → IfSome (line_at script course.line) (λ l. MovesOnTo script lane (model.after l.content course answer) to)
    → after.cursors ≡ set before.cursors lane to
    → GoesOn script lane before after (Some (entry_with line event answer))
goes_on_by script lane before after course event line answer to due has number does passes kept =
    let entry = entry_with line event answer in
    let next = next_is script lane before after course event line answer due has number does in
    record {
      next = next;
      leads = λ journal is.
          let at = stands_at script journal before.cursors lane course is.cursors due in
          let own : lane_of script line ≡ Some lane = ap (lane_of script) number ∙ lane_of_course script journal lane course at in
          let m = made script before after line event answer journal is does in
          record {
            few = is.few;
            state = subst (IsLike after.state) (sym (replay-push script journal entry)) m.leads;
            so_far = SoFar-push script journal lane entry is.so_far own (next journal is);
            cursors = subst (AreCursors script (journal ++ entry ∷ [])) (sym kept)
                (lanes_go_on script journal before.cursors lane course entry to is.cursors due number passes);
          };
    }

-- ---- its start and its end

-- where no lane has a cursor
pub no_cursor_ended : (run : Run) → ((lane : ℕ) → cursor_of run.cursors lane ≡ None) → RunHasEnded run
no_cursor_ended run none script journal after lane =
    (stops script lane run (by (waits run.cursors lane) (none lane))).next journal after
  where
    by : (b : Bool) {cursor : Option Course} → cursor ≡ None → cond b None cursor ≡ None
    by true is = refl
    by false is = is

-- where some lane has one, the setup goes on, or that lane does
pub cursor_left : (run : Run) (lane : ℕ) → is_some (cursor_of run.cursors lane) ≡ true → IsLeft run
cursor_left run lane some script journal after = by (cursor_of run.cursors 0) refl
  where
    due : (l : ℕ) → is_some (cursor_of run.cursors l) ≡ true → waits run.cursors l ≡ false
        → is_some (next script journal l) ≡ true
    due l some free =
        let is = is_due script journal l (cursor_of run.cursors l) (after.cursors l) ∙ some in
        let all : next script journal l ≡ option_map (entry_of script journal) (due_in script journal l)
        = next_by script journal run.cursors l after.cursors ∙ ap (λ b. cond b None (option_map (entry_of script journal) (due_in script journal l))) free in
        ap is_some all ∙ some_map (due_in script journal l) ∙ is
      where
        some_map : (o : Option Due) → is_some (option_map (entry_of script journal) o) ≡ is_some o
        some_map None = refl
        some_map (Some d) = refl

    by : (first : Option Course) → cursor_of run.cursors 0 ≡ first → (l : ℕ) × (is_some (next script journal l) ≡ true)
    by None at =
        let free : waits run.cursors lane ≡ false
        = ap (λ o. not (lane == 0) && is_some o) at ∙ elim (lane == 0) as (λ b. (not b && false) ≡ false) [ true ↦ refl | false ↦ refl ] in
        (lane, due lane some free)
    by (Some course) at = (0, due 0 (ap is_some at) refl)

pub ended_by : (run : Run) (ended : Bool) → ended ≡ list_all is_none run.cursors → MatchBool ended (RunHasEnded run) (IsLeft run)
ended_by run true is = no_cursor_ended run (no_cursor run.cursors (sym is))
ended_by run false is = let left = some_cursor run.cursors (sym is) in cursor_left run left.0 left.1

pub nothing_run : (script : Script) (run : Run) → length script.lines ≤ LINE_LIMIT → run.state ≡ opening script → AreCursors script [] run.cursors
    → IsRunAfter script [] run
nothing_run script run few state cursors = record {
  few = few;
  state = subst (λ (s : State). IsLike s (opening script)) (sym state) (like_self (opening script));
  so_far = λ k lt. absurd (omega (arith, lt));
  cursors = cursors;
}
