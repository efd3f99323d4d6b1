-- Lanes that take turns: what each makes next, and where its entry leads them.
use Rattle.std.proofs.Common.{◌≡◌, ◌≢◌, ℕ, ◌<◌, ◌==◌, ◌&&◌, not, cond, Bool, true, false, List, [], ◌∷◌, ◌++◌, length, set, Option, Some, None, refl, sym, ap}
use Rattle.std.proofs.Common.{◌∙◌, subst, arith}
use Rattle.std.specs.Option.{IfSome, option_map, option_and_then}
use Rattle.std.proofs.lemmas.Bool.Decides.{nat_tests}
use Rattle.cred_event.specs.declared.event.Event.{Event}
use Rattle.cred_event.specs.declared.entry.Entry.{Entry}
use Rattle.cred_model.specs.Script.{Script, Line}
use Rattle.cred_model.specs.Course as model
use Rattle.cred_model.specs.Course.{Course, event_at}
use Rattle.cred_model.specs.Journal.{due_in, entry_of, lane_of, next}
use Rattle.cred_script.specs.Lines.{line_at}
use Rattle.cred_course.specs.Cursor.{IsLaneCursor, MovesOnTo}
use Rattle.cred_course.specs.LaneCursors.{AreCursors, cursor_of, due_of, waits}
use Rattle.cred_course.proofs.Lanes.{lane_over, lane_due, lane_of_course, lane_goes_on, lane_stays}
use Rattle.cred_course.proofs.AllLanes.{has_place, cursor_set, other_cursor, is_due}

-- ---- where they stand

-- what the lane's next entry is, by the cursors
pub next_by : (script : Script) (journal : List Entry) (cursors : List (Option Course)) (lane : ℕ) → AreCursors script journal cursors
    → next script journal lane ≡ cond (waits cursors lane) None (option_map (entry_of script journal) (due_in script journal lane))
next_by script journal cursors lane at =
    ap (λ b. cond (not (lane == 0) && b) None (option_map (entry_of script journal) (due_in script journal lane)))
    (is_due script journal 0 (cursor_of cursors 0) (at 0))

not_waiting : (b : Bool) (cursor : Option Course) (course : Course) → cond b None cursor ≡ Some course → (b ≡ false) × (cursor ≡ Some course)
not_waiting true cursor course is = absurd (cc)
not_waiting false cursor course is = (refl, is)

-- the course that is due is the lane's cursor, and the lane doesn't wait
pub due_is : (cursors : List (Option Course)) (lane : ℕ) (course : Course) → due_of cursors lane ≡ Some course
    → (waits cursors lane ≡ false) × (cursor_of cursors lane ≡ Some course)
due_is cursors lane course is = not_waiting (waits cursors lane) (cursor_of cursors lane) course is

-- it stands on a line of the lane
pub stands_at : (script : Script) (journal : List Entry) (cursors : List (Option Course)) (lane : ℕ) (course : Course)
    → AreCursors script journal cursors → due_of cursors lane ≡ Some course → IsLaneCursor script journal lane (Some course)
stands_at script journal cursors lane course at due = subst (IsLaneCursor script journal lane) (due_is cursors lane course due).1 (at lane)

-- the lane's cursor has a place
pub lane_has_place : (cursors : List (Option Course)) (lane : ℕ) (course : Course) → due_of cursors lane ≡ Some course → lane < length cursors
lane_has_place cursors lane course due = has_place cursors lane course (due_is cursors lane course due).1

-- ---- what comes next

none_by : (b : Bool) (cursor : Option Course) (due : Option Entry) → cond b None cursor ≡ None → (cursor ≡ None → due ≡ None) → cond b None due ≡ None
none_by true cursor due is from = refl
none_by false cursor due is from = from is

pub next_none : (script : Script) (journal : List Entry) (cursors : List (Option Course)) (lane : ℕ) → AreCursors script journal cursors
    → due_of cursors lane ≡ None → next script journal lane ≡ None
next_none script journal cursors lane at none =
    next_by script journal cursors lane at
    ∙ none_by (waits cursors lane) (cursor_of cursors lane) (option_map (entry_of script journal) (due_in script journal lane)) none
    (λ (over : cursor_of cursors lane ≡ None).
    ap (option_map (entry_of script journal)) (lane_over script journal lane (subst (IsLaneCursor script journal lane) over (at lane))))

pub next_some : (script : Script) (journal : List Entry) (cursors : List (Option Course)) (lane : ℕ) (course : Course) (event : Event)
    → AreCursors script journal cursors → due_of cursors lane ≡ Some course
    → option_and_then (λ (line : Line). event_at line.content course) (line_at script course.line) ≡ Some event
    → next script journal lane ≡ Some (entry_of script journal (record { line = course.line; event = event }))
next_some script journal cursors lane course event at due has =
    next_by script journal cursors lane at
    ∙ ap (λ b. cond b None (option_map (entry_of script journal) (due_in script journal lane))) (due_is cursors lane course due).0
    ∙ ap (option_map (entry_of script journal)) (lane_due script journal lane course event (stands_at script journal cursors lane course at due) has)

-- ---- an entry of the lane that has one due

-- the lane's own cursor goes on, all others stay
cursor_by : (script : Script) (journal : List Entry) (cursors : List (Option Course)) (lane : ℕ) (course : Course) (entry : Entry) (to : Option Course)
    → AreCursors script journal cursors → due_of cursors lane ≡ Some course → entry.line ≡ course.line
    → IfSome (line_at script course.line) (λ line. MovesOnTo script lane (model.after line.content course entry.answer) to)
    → (other : ℕ) (b : Bool) → (other == lane) ≡ b
    → IsLaneCursor script (journal ++ entry ∷ []) other (cursor_of (set cursors lane to) other)
cursor_by script journal cursors lane course entry to at due number passes other true test =
    let here : lane ≡ other = grind (arith, nat_tests) in
    let goes = lane_goes_on script journal lane course entry to (stands_at script journal cursors lane course at due) number passes in
    let cursor : to ≡ cursor_of (set cursors lane to) lane = sym (cursor_set cursors lane to (lane_has_place cursors lane course due)) in
    subst (λ l. IsLaneCursor script (journal ++ entry ∷ []) l (cursor_of (set cursors lane to) l)) here
    (subst (IsLaneCursor script (journal ++ entry ∷ []) lane) cursor goes)
cursor_by script journal cursors lane course entry to at due number passes other false test =
    let differ : other ≢ lane = grind (arith, nat_tests) in
    let apart : lane ≢ other = grind (arith, nat_tests) in
    let own : lane_of script entry.line ≡ Some lane
    = ap (lane_of script) number ∙ lane_of_course script journal lane course (stands_at script journal cursors lane course at due) in
    let cursor : cursor_of cursors other ≡ cursor_of (set cursors lane to) other = sym (other_cursor cursors lane other to differ) in
    subst (IsLaneCursor script (journal ++ entry ∷ []) other) cursor
    (lane_stays script journal other lane entry (cursor_of cursors other) own apart (at other))

pub lanes_go_on : (script : Script) (journal : List Entry) (cursors : List (Option Course)) (lane : ℕ) (course : Course) (entry : Entry) (to : Option Course)
    → AreCursors script journal cursors → due_of cursors lane ≡ Some course → entry.line ≡ course.line
    → IfSome (line_at script course.line) (λ line. MovesOnTo script lane (model.after line.content course entry.answer) to)
    → AreCursors script (journal ++ entry ∷ []) (set cursors lane to)
lanes_go_on script journal cursors lane course entry to at due number passes other =
    cursor_by script journal cursors lane course entry to at due number passes other (other == lane) refl
