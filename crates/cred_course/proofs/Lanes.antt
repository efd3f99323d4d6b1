-- The cursor of a lane.
use Rattle.std.proofs.Common.{◌≡◌, ◌≢◌, ℕ, ◌+◌, ◌-◌, ◌==◌, true, false, List, [], ◌∷◌, ◌++◌, slice_get, Option, Some, None, is_some, refl, sym, ap, ◌∙◌, subst}
use Rattle.std.proofs.Common.{arith}
use Rattle.std.specs.Option.{IfSome, option_map, option_and_then}
use Rattle.std.proofs.lemmas.Bool.Decides.{nat_tests}
use Rattle.cred_event.specs.declared.event.Event.{Event}
use Rattle.cred_event.specs.declared.entry.Entry.{Entry}
use Rattle.cred_model.specs.Script.{Script, Line}
use Rattle.cred_model.specs.Course as model
use Rattle.cred_model.specs.Course.{Course, Leads, event_at}
use Rattle.cred_model.specs.Journal.{due_in, next, lane_of, SoFar}
use Rattle.cred_model.proofs.Courses.{makes_event}
use Rattle.cred_model.proofs.Journals.{each_push}
use Rattle.cred_script.specs.Lines.{line_at}
use Rattle.cred_course.specs.Cursor.{IsLaneCursor, IsOfLine, MovesOnTo, StandsOn, is_of}
use Rattle.cred_course.proofs.Courses.{IsOther, line_is, of_line, next_is, goes_on, cursor_stays}
use Rattle.cred_course.proofs.Due.{first_due_at, first_due_none}

-- ---- where it stands

-- a lane without a cursor has no next event
pub lane_over : (script : Script) (journal : List Entry) (lane : ℕ) → IsLaneCursor script journal lane None → due_in script journal lane ≡ None
lane_over script journal lane over = first_due_none (is_of lane) journal 1 script.lines over.ended

-- the event of the line that stands at the course's number is that of the line where it stands
pub due_here : {lane : ℕ} (script : Script) (journal : List Entry) (course : Course) (event : Event) (at : StandsOn script journal lane course)
    → option_and_then (λ (line : Line). event_at line.content course) (line_at script course.line) ≡ Some event
    → event_at at.line.content course ≡ Some event
due_here script journal course event at has =
    ap (λ (o : Option Line). option_and_then (λ (l : Line). event_at l.content course) o) (sym (line_is script journal course at)) ∙ has

-- the next event of the lane is that of the course's line
pub lane_due : (script : Script) (journal : List Entry) (lane : ℕ) (course : Course) (event : Event) → IsLaneCursor script journal lane (Some course)
    → option_and_then (λ (line : Line). event_at line.content course) (line_at script course.line) ≡ Some event
    → due_in script journal lane ≡ Some (record { line = course.line; event = event })
lane_due script journal lane course event is has =
    let at = is.0 in
    let due = next_is script journal course at ∙ due_here script journal course event at has in
    first_due_at (is_of lane) journal 1 script.lines at.place at.line event at.ended at.here at.own due
    ∙ ap (λ n. Some (record { line = n; event = event })) (sym at.number)

pub lane_of_line : (script : Script) (journal : List Entry) (lane : ℕ) (course : Course) → IsLaneCursor script journal lane (Some course)
    → IsOfLine script course
lane_of_line script journal lane course at = of_line script journal course at.0

-- a course that has a stage makes an event
pub lane_makes_due : (script : Script) (journal : List Entry) (lane : ℕ) (course : Course) → IsLaneCursor script journal lane (Some course)
    → is_some (option_and_then (λ (line : Line). event_at line.content course) (line_at script course.line)) ≡ true
lane_makes_due script journal lane course is =
    let at = is.0 in
    let line = line_is script journal course at in
    let own : Leads at.line.content course
    = subst (λ (o : Option Line). IfSome o (λ l. Leads l.content course)) line (of_line script journal course at) in
    ap (λ (o : Option Line). is_some (option_and_then (λ (l : Line). event_at l.content course) o)) line
    ∙ makes_event at.line.content course course.stage refl own ∙ is.1

-- the lane of the line at a place
lane_of-place : (script : Script) (place : ℕ) → lane_of script (place + 1) ≡ option_map (λ (line : Line). line.lane) (slice_get script.lines place)
lane_of-place script place =
    let above : (place + 1 == 0) ≡ false = grind (arith, nat_tests) in
    let down : place + 1 - 1 ≡ place = omega arith in
    rw (above, down) refl

pub same_lane : (lane own : ℕ) → (lane == own) ≡ true → lane ≡ own
same_lane lane own test = grind (arith, nat_tests)

pub lane_of_course : (script : Script) (journal : List Entry) (lane : ℕ) (course : Course) → IsLaneCursor script journal lane (Some course)
    → lane_of script course.line ≡ Some lane
lane_of_course script journal lane course at =
    ap (lane_of script) at.0.number ∙ lane_of-place script at.0.place
    ∙ ap (option_map (λ (line : Line). line.lane)) at.0.here ∙ ap Some (same_lane at.0.line.lane lane at.0.own)

-- ---- an entry

-- one of the course's line leads to the lane's next cursor
pub lane_goes_on : (script : Script) (journal : List Entry) (lane : ℕ) (course : Course) (entry : Entry) (to : Option Course)
    → IsLaneCursor script journal lane (Some course) → entry.line ≡ course.line
    → IfSome (line_at script course.line) (λ line. MovesOnTo script lane (model.after line.content course entry.answer) to)
    → IsLaneCursor script (journal ++ entry ∷ []) lane to
lane_goes_on script journal lane course entry to at same passes =
    let passed = subst (λ (o : Option Line). IfSome o (λ line. MovesOnTo script lane (model.after line.content course entry.answer) to))
    (line_is script journal course at.0) passes in
    passed.stands (journal ++ entry ∷ []) (goes_on script journal course entry at.0 same)

-- one of a line of another lane
other_line : (script : Script) (lane other : ℕ) (entry : Entry) → lane_of script entry.line ≡ Some other → other ≢ lane
    → IsOther script lane entry
other_line script lane other entry is differ k = by (slice_get script.lines k) refl
  where
    by : (o : Option Line) → slice_get script.lines k ≡ o → IfSome o (λ line. is_of lane line ≡ true → entry.line ≢ k + 1)
    by None at = tt
    by (Some line) at = λ own here.
        let lanes : Some other ≡ Some line.lane
        = sym is ∙ ap (lane_of script) here ∙ lane_of-place script k ∙ ap (option_map (λ (l : Line). l.lane)) at in
        let one : other ≡ line.lane = cc in
        differ (one ∙ same_lane line.lane lane own)

-- leaves the lane's cursor where it is
pub lane_stays : (script : Script) (journal : List Entry) (lane other : ℕ) (entry : Entry) (cursor : Option Course)
    → lane_of script entry.line ≡ Some other → other ≢ lane
    → IsLaneCursor script journal lane cursor → IsLaneCursor script (journal ++ entry ∷ []) lane cursor
lane_stays script journal lane other entry cursor is differ at =
    cursor_stays script journal lane cursor entry (other_line script lane other entry is differ) at

-- ---- a lane's next entry

pub SoFar-push : (script : Script) (journal : List Entry) (lane : ℕ) (entry : Entry) → SoFar script journal
    → lane_of script entry.line ≡ Some lane → next script journal lane ≡ Some entry → SoFar script (journal ++ entry ∷ [])
SoFar-push script journal lane entry each of is =
    each_push (λ before o. IfSome o (λ e. (lane : ℕ) × (lane_of script e.line ≡ Some lane) × (next script before lane ≡ Some e))) journal entry each
    (lane, of, is)
