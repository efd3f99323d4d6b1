-- Which lines a lane has left, by its cursor, and what an entry does to the numbers of all lanes.
use Rattle.std.proofs.Common.{◌≡◌, ◌≢◌, ℕ, ◌+◌, ◌<◌, ◌==◌, ◌&&◌, not, cond, Bool, true, false, List, [], ◌∷◌, ◌++◌, length, set, get_or, slice_get, Option}
use Rattle.std.proofs.Common.{Some, None, is_none, is_some, refl, sym, ap, ◌∙◌, subst, inl, inr, ◌⊎◌, arith}
use Rattle.std.specs.Option.{IfSome, option_and_then}
use Rattle.std.proofs.lemmas.Bool.{cases_eq, cases_order}
use Rattle.std.proofs.lemmas.Bool.Decides.{nat_tests}
use Rattle.std.proofs.lemmas.List.{get_or-set_other, get_or-set_same}
use Rattle.std.proofs.lemmas.Option.{slice_get_within}
use Rattle.cred_event.specs.declared.entry.Entry.{Entry}
use Rattle.cred_model.specs.Script.{Script, Line}
use Rattle.cred_model.specs.Course.{Course, event_at, leads}
use Rattle.cred_model.specs.Journal.{due_in, next_event}
use Rattle.cred_model.proofs.Lines.{answers_of-push_other}
use Rattle.cred_script.specs.Lanes.{lanes}
use Rattle.cred_course.specs.Cursor.{IsLaneCursor}
use Rattle.cred_course.specs.LaneCursors.{AreCursors, cursor_of, due_of}
use Rattle.cred_course.proofs.AllLanes.{is_due, other_cursor}
use Rattle.cred_course.proofs.Courses.{line_is, next_is}
use Rattle.cred_course.proofs.Lanes.{lane_makes_due, lane_over}
use Rattle.cred_course.proofs.Turns.{due_is}
use Rattle.cred_book.specs.Counts.{AreEnded, count_of, ended_of, lines_in}
use Rattle.cred_book.specs.Cursor.{has_left}
use Rattle.cred_book.proofs.Counts.{ended_all, ended_fewer, ended_grows, ended_others, lane_within}

-- ---- the line that a cursor stands on

not_none : {A : Type 0} (o : Option A) → is_some o ≡ true → is_none o ≡ false
not_none None some = cc
not_none (Some x) some = refl

-- has not ended
line_goes_on : (script : Script) (journal : List Entry) (lane : ℕ) (course : Course) (at : IsLaneCursor script journal lane (Some course))
    → is_none (next_event journal (at.0.place + 1) at.0.line.content) ≡ false
line_goes_on script journal lane course at =
    let makes = ap (λ (o : Option Line). is_some (option_and_then (λ (l : Line). event_at l.content course) o)) (sym (line_is script journal course at.0))
    ∙ lane_makes_due script journal lane course at in
    ap is_none (next_is script journal course at.0) ∙ not_none (event_at at.0.line.content course) makes

-- the same, by the number of the line
pub own_goes_on : (script : Script) (journal : List Entry) (lane : ℕ) (course : Course) (at : IsLaneCursor script journal lane (Some course))
    → is_none (next_event journal course.line at.0.line.content) ≡ false
own_goes_on script journal lane course at =
    ap (λ n. is_none (next_event journal n at.0.line.content)) at.0.number ∙ line_goes_on script journal lane course at

-- a line of the lane that has ended, at its place
over_at : (journal : List Entry) (lane k : ℕ) (line : Line) (found : Option Line) → found ≡ Some line → (line.lane == lane) ≡ true
    → IfSome found (λ l. (l.lane == lane) ≡ true → next_event journal (k + 1) l.content ≡ None)
    → is_none (next_event journal (k + 1) line.content) ≡ true
over_at journal lane k line found at mine ended =
    let there = subst (λ (o : Option Line). IfSome o (λ l. (l.lane == lane) ≡ true → next_event journal (k + 1) l.content ≡ None)) at ended in
    ap is_none (there mine)

-- ---- the line that a lane's entry is of

-- has ended just where the lane's next cursor stands on it no more
pub left_has_ended : (script : Script) (journal : List Entry) (lane : ℕ) (course : Course) (entry : Entry) (to : Option Course)
    (at : IsLaneCursor script journal lane (Some course)) → entry.line ≡ course.line → IsLaneCursor script (journal ++ entry ∷ []) lane to
    → is_none (next_event (journal ++ entry ∷ []) (at.0.place + 1) at.0.line.content) ≡ has_left to course.line
left_has_ended script journal lane course entry None at number now =
    over_at (journal ++ entry ∷ []) lane at.0.place at.0.line (slice_get script.lines at.0.place) at.0.here at.0.own
    (now.ended at.0.place (slice_get_within script.lines at.0.place at.0.line at.0.here))
left_has_ended script journal lane course entry (Some other) at number now = by (cases_order at.0.place now.0.place)
  where
    grown : List Entry
    grown = journal ++ entry ∷ []

    by : (at.0.place ≡ now.0.place) ⊎ ((at.0.place < now.0.place) ⊎ (now.0.place < at.0.place))
        → is_none (next_event grown (at.0.place + 1) at.0.line.content) ≡ not (other.line == course.line)
    by (inl same) =
        let one : Some now.0.line ≡ Some at.0.line = sym now.0.here ∙ ap (slice_get script.lines) (sym same) ∙ at.0.here in
        let line : now.0.line ≡ at.0.line = cc in
        let mine = at.0.number in
        let its = now.0.number in
        let lines : other.line ≡ course.line = omega (arith, mine, its, same) in
        let test : (other.line == course.line) ≡ true = grind (arith, nat_tests) in
        ap (λ k. is_none (next_event grown (k + 1) at.0.line.content)) same
        ∙ ap (λ (l : Line). is_none (next_event grown (now.0.place + 1) l.content)) (sym line)
        ∙ line_goes_on script grown lane other now ∙ sym (ap not test)
    by (inr (inl before)) =
        let mine = at.0.number in
        let its = now.0.number in
        let differ : other.line ≢ course.line = λ e. omega (arith, mine, its, before, e) in
        let test : (other.line == course.line) ≡ false = grind (arith, nat_tests) in
        over_at grown lane at.0.place at.0.line (slice_get script.lines at.0.place) at.0.here at.0.own (now.0.ended at.0.place before)
        ∙ sym (ap not test)
    by (inr (inr after)) =
        let mine = at.0.number in
        let elsewhere : entry.line ≢ now.0.place + 1 = λ e. omega (arith, mine, number, after, e) in
        let was = over_at journal lane now.0.place now.0.line (slice_get script.lines now.0.place) now.0.here now.0.own (at.0.ended now.0.place after) in
        let same = ap (λ answers. is_none (event_at now.0.line.content (leads (now.0.place + 1) now.0.line.content answers)))
        (answers_of-push_other journal entry (now.0.place + 1) elsewhere) in
        let going = line_goes_on script grown lane other now in
        let both : true ≡ false = sym was ∙ sym same ∙ going in
        cc

-- ---- the numbers after it

-- the lane's own
pub own_grows : (script : Script) (journal : List Entry) (lane : ℕ) (course : Course) (entry : Entry) (to : Option Course)
    (at : IsLaneCursor script journal lane (Some course)) → entry.line ≡ course.line → IsLaneCursor script (journal ++ entry ∷ []) lane to
    → ended_of script (journal ++ entry ∷ []) lane ≡ ended_of script journal lane + count_of (has_left to course.line)
own_grows script journal lane course entry to at number now =
    let grown = journal ++ entry ∷ [] in
    let line : entry.line ≡ at.0.place + 1 = number ∙ at.0.number in
    let going = ap (λ n. is_none (next_event journal n at.0.line.content)) line ∙ line_goes_on script journal lane course at in
    ended_grows journal entry lane 1 script.lines at.0.place at.0.line at.0.here at.0.own line going
    ∙ ap (λ n. ended_of script journal lane + count_of (is_none (next_event grown n at.0.line.content))) line
    ∙ ap (λ b. ended_of script journal lane + count_of b) (left_has_ended script journal lane course entry to at number now)

-- those of the other lanes
pub others_stay : (script : Script) (journal : List Entry) (lane other : ℕ) (course : Course) (entry : Entry)
    → IsLaneCursor script journal lane (Some course) → entry.line ≡ course.line → other ≢ lane
    → ended_of script (journal ++ entry ∷ []) other ≡ ended_of script journal other
others_stay script journal lane other course entry at number differ =
    ended_others journal entry lane other 1 script.lines at.0.place at.0.line at.0.here at.0.own (number ∙ at.0.number) differ

-- all, in their list
pub all_grow : (script : Script) (journal : List Entry) (ended : List ℕ) (lane : ℕ) (course : Course) (entry : Entry) (to : Option Course)
    → IsLaneCursor script journal lane (Some course) → entry.line ≡ course.line → IsLaneCursor script (journal ++ entry ∷ []) lane to
    → AreEnded script journal ended → lane < length ended
    → AreEnded script (journal ++ entry ∷ []) (set ended lane (get_or ended lane 0 + count_of (has_left to course.line)))
all_grow script journal ended lane course entry to at number now are within other = elim (cases_eq lane other) [
  | inl same ↦
      let number_of : ℕ = get_or ended lane 0 + count_of (has_left to course.line) in
      let grown : ended_of script (journal ++ entry ∷ []) lane ≡ number_of
      = own_grows script journal lane course entry to at number now
      ∙ ap (λ n. n + count_of (has_left to course.line)) (sym (are lane)) in
      subst (λ l. get_or (set ended lane number_of) l 0 ≡ ended_of script (journal ++ entry ∷ []) l) same
      (get_or-set_same ended lane number_of 0 within ∙ sym grown)
  | inr differ ↦
      let apart : other ≢ lane = λ e. differ (sym e) in
      get_or-set_other ended lane other (get_or ended lane 0 + count_of (has_left to course.line)) 0 apart
      ∙ are other ∙ sym (others_stay script journal lane other course entry at number apart)
]

-- ---- the bounds of the lane's number

pub one_left : (script : Script) (journal : List Entry) (lane : ℕ) (course : Course) → IsLaneCursor script journal lane (Some course)
    → ended_of script journal lane < lines_in script lane
one_left script journal lane course at =
    ended_fewer journal lane 1 script.lines at.0.place (at.0.place + 1) at.0.line at.0.here at.0.own refl (line_goes_on script journal lane course at)

pub lane_in : (script : Script) (journal : List Entry) (lane : ℕ) (course : Course) → IsLaneCursor script journal lane (Some course)
    → lane < lanes script.lines + 1
lane_in script journal lane course at =
    let within = lane_within script.lines at.0.place at.0.line at.0.here in
    let test = at.0.own in
    let mine : at.0.line.lane ≡ lane = same_number at.0.line.lane lane test in
    omega (arith, within, mine)
  where
    same_number : (a b : ℕ) → (a == b) ≡ true → a ≡ b
    same_number a b test = grind (arith, nat_tests)

-- ---- the setup

none_by : {A B : Type 0} (a : Option A) (b : Option B) → is_some a ≡ is_some b → b ≡ None → a ≡ None
none_by None b same none = refl
none_by (Some x) b same none = let some = same ∙ ap is_some none in cc

-- a setup that has ended stays so
pub set_up_stays : (script : Script) (journal grown : List Entry) (cursors : List (Option Course)) (lane : ℕ) (course : Course) (to : Option Course)
    → AreCursors script journal cursors → due_of cursors lane ≡ Some course → AreCursors script grown (set cursors lane to)
    → due_in script journal 0 ≡ None → due_in script grown 0 ≡ None
set_up_stays script journal grown cursors lane course to at due now over =
    let none : cursor_of cursors 0 ≡ None
    = none_by (cursor_of cursors 0) (due_in script journal 0) (sym (is_due script journal 0 (cursor_of cursors 0) (at 0))) over in
    let differ : 0 ≢ lane = λ e.
    let here : cursor_of cursors 0 ≡ Some course = ap (cursor_of cursors) e ∙ (due_is cursors lane course due).1 in
    let both : is_some (cursor_of cursors 0) ≡ true = ap is_some here in
    let not : is_some (cursor_of cursors 0) ≡ false = ap is_some none in
    absurd (cc) in
    none_by (due_in script grown 0) (cursor_of (set cursors lane to) 0) (is_due script grown 0 (cursor_of (set cursors lane to) 0) (now 0))
    (other_cursor cursors lane 0 to differ ∙ none)

-- where it has, a lane without an event that is due has no line left
pub all_have_ended : (script : Script) (journal : List Entry) (cursors : List (Option Course)) (lane : ℕ)
    → AreCursors script journal cursors → due_of cursors lane ≡ None → due_in script journal 0 ≡ None
    → ended_of script journal lane ≡ lines_in script lane
all_have_ended script journal cursors lane at due over =
    let none : cursor_of cursors 0 ≡ None
    = none_by (cursor_of cursors 0) (due_in script journal 0) (sym (is_due script journal 0 (cursor_of cursors 0) (at 0))) over in
    let free = ap (λ b. cond (not (lane == 0) && b) None (cursor_of cursors lane)) (sym (ap is_some none)) ∙ due in
    let own : cursor_of cursors lane ≡ None = by (not (lane == 0)) (cursor_of cursors lane) free in
    ended_all journal lane 1 script.lines (lane_over script journal lane (subst (IsLaneCursor script journal lane) own (at lane)))
  where
    by : (b : Bool) (cursor : Option Course) → cond (b && false) None cursor ≡ None → cursor ≡ None
    by true cursor is = is
    by false cursor is = is
