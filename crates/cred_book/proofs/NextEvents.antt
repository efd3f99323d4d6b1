-- A lane's cursor, and the event that the lane makes next.
use Rattle.std.proofs.Common.{◌≡◌, ◌≢◌, ℕ, ◌==◌, ◌&&◌, not, cond, Bool, true, false, List, set, Option, Some, None, is_some, refl, sym, ap, ◌∙◌, subst, arith}
use Rattle.std.specs.Option.{option_and_then}
use Rattle.std.proofs.lemmas.Bool.Decides.{nat_tests}
use Rattle.cred_event.specs.declared.event.Event.{Event}
use Rattle.cred_event.specs.declared.entry.Entry.{Entry}
use Rattle.cred_model.specs.Script.{Script, Line}
use Rattle.cred_model.specs.Course.{Course, event_at}
use Rattle.cred_model.specs.Journal.{Due, due_in}
use Rattle.cred_script.specs.Lines.{line_at}
use Rattle.cred_course.specs.Cursor.{IsLaneCursor}
use Rattle.cred_course.specs.LaneCursors.{AreCursors, cursor_of, due_of, waits}
use Rattle.cred_course.proofs.AllLanes.{is_due, other_cursor}
use Rattle.cred_course.proofs.Lanes.{lane_due, lane_makes_due, lane_over}
use Rattle.cred_course.proofs.Turns.{due_is, stands_at}
use Rattle.cred_book.proofs.LabelsDiffer.{IsNext}

-- the event of the line that a cursor stands on
abbrev pub event_of : Script → Course → Option Event
event_of script course = option_and_then (λ (line : Line). event_at line.content course) (line_at script course.line)

none_by : {A B : Type 0} (a : Option A) (b : Option B) → is_some a ≡ is_some b → b ≡ None → a ≡ None
none_by None b same none = refl
none_by (Some x) b same none = let some = same ∙ ap is_some none in cc

free_cursor : (lane : ℕ) (o : Option Course) → not (lane == 0) && is_some o ≡ false → lane ≢ 0 → o ≡ None
free_cursor lane None free some = refl
free_cursor lane (Some course) free some = absurd (some (grind (arith, nat_tests, free)))

-- the course that is due makes the lane's next event
pub next_is : (script : Script) (journal : List Entry) (cursors : List (Option Course)) (lane : ℕ) (course : Course) (event : Event)
    → AreCursors script journal cursors → due_of cursors lane ≡ Some course → event_of script course ≡ Some event
    → IsNext script journal lane (record { line = course.line; event = event })
next_is script journal cursors lane course event at due has = record {
  is = lane_due script journal lane course event (stands_at script journal cursors lane course at due) has;
  set_up = λ some. none_by (due_in script journal 0) (cursor_of cursors 0) (is_due script journal 0 (cursor_of cursors 0) (at 0))
      (free_cursor lane (cursor_of cursors 0) (due_is cursors lane course due).0 some);
}

-- The course that makes a lane's next event.
pub record MakesNext (script : Script) (cursors : List (Option Course)) (lane : ℕ) (due : Due) : Type 0 where
  pub course : Course
  pub is : due_of cursors lane ≡ Some course
  pub line : course.line ≡ due.line
  pub event : event_of script course ≡ Some due.event

never_waits : (lane : ℕ) (o : Option Course) → (lane ≢ 0 → o ≡ None) → not (lane == 0) && is_some o ≡ false
never_waits lane None free = by (not (lane == 0))
  where
    by : (b : Bool) → b && false ≡ false
    by true = refl
    by false = refl
never_waits lane (Some course) free =
    let test : not (lane == 0) ≡ false = zero_by lane (λ some. let none : Some course ≡ None = free some in absurd (cc)) in
    ap (λ b. b && true) test
  where
    zero_by : (lane : ℕ) → (lane ≢ 0 → ⊥) → not (lane == 0) ≡ false
    zero_by lane never = grind (arith, nat_tests, never)

pub next_course : (script : Script) (journal : List Entry) (cursors : List (Option Course)) (lane : ℕ) (due : Due)
    → AreCursors script journal cursors → IsNext script journal lane due → MakesNext script cursors lane due
next_course script journal cursors lane due at next = by (cursor_of cursors lane) refl (at lane)
  where
    free : waits cursors lane ≡ false
    free = never_waits lane (cursor_of cursors 0)
        (λ some. none_by (cursor_of cursors 0) (due_in script journal 0) (sym (is_due script journal 0 (cursor_of cursors 0) (at 0))) (next.set_up some))

    by : (o : Option Course) → cursor_of cursors lane ≡ o → IsLaneCursor script journal lane o → MakesNext script cursors lane due
    by None here over = let both : None ≡ Some due = sym (lane_over script journal lane over) ∙ next.is in absurd (cc)
    by (Some course) here stands = of (event_of script course) refl (lane_makes_due script journal lane course stands)
      where
        of : (o : Option Event) → event_of script course ≡ o → is_some o ≡ true → MakesNext script cursors lane due
        of None has some = cc
        of (Some event) has some =
            let same : Some (record { line = course.line; event = event }) ≡ Some due
            = sym (lane_due script journal lane course event stands has) ∙ next.is in
            let is : record { line = course.line; event = event } ≡ due = cc in
            record {
              course = course;
              is = ap (λ b. cond b None (cursor_of cursors lane)) free ∙ here;
              line = ap (λ (d : Due). d.line) is;
              event = has ∙ ap (λ (d : Due). Some d.event) is;
            }

-- ---- an entry of another lane

-- leaves what is due
pub due_stays : (script : Script) (journal grown : List Entry) (cursors : List (Option Course)) (lane other : ℕ) (to : Option Course)
    → AreCursors script journal cursors → AreCursors script grown (set cursors lane to) → other ≢ lane
    → due_in script grown other ≡ due_in script journal other
due_stays script journal grown cursors lane other to at now differ =
    by (cursor_of cursors other) (at other) (subst (IsLaneCursor script grown other) (other_cursor cursors lane other to differ) (now other))
  where
    by : (o : Option Course) → IsLaneCursor script journal other o → IsLaneCursor script grown other o → due_in script grown other ≡ due_in script journal other
    by None was is = lane_over script grown other is ∙ sym (lane_over script journal other was)
    by (Some course) was is = of (event_of script course) refl (lane_makes_due script journal other course was)
      where
        of : (o : Option Event) → event_of script course ≡ o → is_some o ≡ true → due_in script grown other ≡ due_in script journal other
        of None has some = cc
        of (Some event) has some =
            lane_due script grown other course event is has ∙ sym (lane_due script journal other course event was has)
