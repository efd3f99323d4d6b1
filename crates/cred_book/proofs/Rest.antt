-- Every journal so far goes on to a legal one.
use Rattle.std.proofs.Common.{◌≡◌, ℕ, zero, suc, ◌+◌, ◌-◌, ◌<◌, ◌==◌, ◌&&◌, not, cond, Bool, true, false, List, [], ◌∷◌, ◌++◌, length, set, Option, Some, None}
use Rattle.std.proofs.Common.{is_none, is_some, refl, sym, ap, ◌∙◌, subst, append_assoc, arith}
use Rattle.std.specs.List.{list_all, sum_by}
use Rattle.std.specs.Option.{IfSome}
use Rattle.std.proofs.lemmas.List.{append-nil, length_push}
use Rattle.cred_event.specs.declared.event.Event.{Event}
use Rattle.cred_event.specs.declared.entry.Entry.{Entry}
use Rattle.cred_model.specs.Script.{Script, Line}
use Rattle.cred_model.specs.Course as model
use Rattle.cred_model.specs.Course.{Course, start}
use Rattle.cred_model.specs.Journal.{IsLegal, SoFar, entry_of, replay}
use Rattle.cred_script.specs.Lanes.{lanes}
use Rattle.cred_script.specs.Lines.{line_at}
use Rattle.cred_course.specs.Cursor.{IsLaneCursor, MovesOnFrom, MovesOnTo, is_of, left_at}
use Rattle.cred_course.specs.LaneCursors.{AreCursors, cursor_of, due_of, waits}
use Rattle.cred_course.specs.Waiting.{waiting}
use Rattle.cred_course.proofs.AllLanes.{AreFirst, all_first, no_cursor, none_first, one_more_first, some_cursor}
use Rattle.cred_course.proofs.Courses.{Reaches, first_of_lane, line_is, next_shorter, passes_due, passes_ended, reaches_due, reaches_end, reaches_next, reaches_self}
use Rattle.cred_course.proofs.Lanes.{SoFar-push, lane_makes_due, lane_of_course}
use Rattle.cred_course.proofs.Turns.{lanes_go_on, next_none, next_some, stands_at}
use Rattle.cred_book.specs.Book.{Recorded}
use Rattle.cred_book.specs.Cursor.{BookStands}
use Rattle.cred_book.specs.Parts.{BeginsLegal}
use Rattle.cred_book.proofs.Cursors.{entry_falls}
use Rattle.cred_book.proofs.NextEvents.{event_of}

-- ---- where a lane goes on

-- the lane's cursor from a line on
record GoesFrom (script : Script) (lane from : ℕ) : Type 0 where
  to : Option Course
  goes : MovesOnFrom script lane from to

none_of : {A : Type 0} (o : Option A) → is_none o ≡ true → o ≡ None
none_of None is = refl
none_of (Some x) is = cc

from_by : (script : Script) (lane from number : ℕ) → Reaches script lane from number
    → ((later : ℕ) → length script.lines - later < length script.lines - number → Reaches script lane from later → GoesFrom script lane from)
    → GoesFrom script lane from
from_by script lane from number at again = by (line_at script (number + 1)) refl
  where
    on : (line : Line) → line_at script (number + 1) ≡ Some line → (is_of lane line ≡ true → (start (number + 1) line.content).stage ≡ None)
        → GoesFrom script lane from
    on line here over = again (number + 1) (next_shorter script number line here) (reaches_next script lane from number line at here over)

    of : (line : Line) → line_at script (number + 1) ≡ Some line → (own over : Bool) → is_of lane line ≡ own
        → is_none (start (number + 1) line.content).stage ≡ over → GoesFrom script lane from
    of line here false over other ended = on line here (λ own. let both : false ≡ true = sym other ∙ own in cc)
    of line here true true own ended = on line here (λ _. none_of (start (number + 1) line.content).stage ended)
    of line here true false own going = record {
      to = Some (start (number + 1) line.content);
      goes = reaches_due script lane from number line at here own going;
    }

    by : (o : Option Line) → line_at script (number + 1) ≡ o → GoesFrom script lane from
    by None none = record { to = None; goes = reaches_end script lane from number at none }
    by (Some line) here = of line here (is_of lane line) (is_none (start (number + 1) line.content).stage) refl refl

goes_from : (fuel : ℕ) (script : Script) (lane from number : ℕ) → length script.lines - number < fuel → Reaches script lane from number
    → GoesFrom script lane from
goes_from zero script lane from number lt at = absurd (omega (arith, lt))
goes_from (suc fuel) script lane from number lt at =
    from_by script lane from number at (λ later less reach. goes_from fuel script lane from later (omega (arith, lt, less)) reach)

-- the lane's cursor from a course on
record GoesTo (script : Script) (lane : ℕ) (course : Course) : Type 0 where
  to : Option Course
  goes : MovesOnTo script lane course to

goes_to : (script : Script) (lane : ℕ) (course : Course) → GoesTo script lane course
goes_to script lane course = by (is_none course.stage) refl
  where
    by : (over : Bool) → is_none course.stage ≡ over → GoesTo script lane course
    by true over =
        let next = goes_from (suc (length script.lines)) script lane course.line course.line (omega arith) (reaches_self script lane course.line) in
        record { to = next.to; goes = passes_ended script lane course next.to over next.goes }
    by false going = record { to = Some course; goes = passes_due script lane course going }

-- ---- the rest of a journal

and_false : (b : Bool) → b && false ≡ false
and_false true = refl
and_false false = refl

none_either : {A : Type 0} (b : Bool) (o : Option A) → o ≡ None → cond b None o ≡ None
none_either true o none = refl
none_either false o none = none

-- the steps that may be left, at most
abbrev ahead : Script → List Entry → List (Option Course) → ℕ
ahead script journal cursors = sum_by (left_at script) cursors + waiting (replay script journal)

rest_by : (script : Script) (journal : List Entry) (cursors : List (Option Course)) → SoFar script journal → AreCursors script journal cursors
    → ((longer : List Entry) (next : List (Option Course)) → SoFar script longer → AreCursors script longer next
    → ahead script longer next < ahead script journal cursors → BeginsLegal script longer)
    → BeginsLegal script journal
rest_by script journal cursors so_far at again = by (list_all is_none cursors) refl
  where
    enters : (lane : ℕ) (course : Course) (event : Event) → due_of cursors lane ≡ Some course → event_of script course ≡ Some event
        → BeginsLegal script journal
    enters lane course event due has =
        let entry : Entry = entry_of script journal (record { line = course.line; event = event }) in
        let stands = stands_at script journal cursors lane course at due in
        let next = goes_to script lane (model.after stands.0.line.content course entry.answer) in
        let passes : IfSome (line_at script course.line) (λ line. MovesOnTo script lane (model.after line.content course entry.answer) next.to)
        = subst (λ (o : Option Line). IfSome o (λ line. MovesOnTo script lane (model.after line.content course entry.answer) next.to))
        (sym (line_is script journal course stands.0)) next.goes in
        let rest = again (journal ++ entry ∷ []) (set cursors lane next.to)
        (SoFar-push script journal lane entry so_far (lane_of_course script journal lane course stands)
        (next_some script journal cursors lane course event at due has))
        (lanes_go_on script journal cursors lane course entry next.to at due refl passes)
        (entry_falls script journal cursors lane course event next.to at due has passes) in
        record {
          more = entry ∷ rest.more;
          legal = subst (IsLegal script) (append_assoc journal (entry ∷ []) rest.more) rest.legal;
        }

    goes : (lane : ℕ) (course : Course) → due_of cursors lane ≡ Some course → BeginsLegal script journal
    goes lane course due =
        of (event_of script course) refl (lane_makes_due script journal lane course (stands_at script journal cursors lane course at due))
      where
        of : (o : Option Event) → event_of script course ≡ o → is_some o ≡ true → BeginsLegal script journal
        of None has some = cc
        of (Some event) has some = enters lane course event due has

    -- the setup's line comes first, and where it has none, any
    some : (lane : ℕ) (setup own : Option Course) → cursor_of cursors 0 ≡ setup → cursor_of cursors lane ≡ own → is_some own ≡ true
        → BeginsLegal script journal
    some lane (Some course) own is stands has = goes 0 course is
    some lane None None is stands has = cc
    some lane None (Some course) is stands has =
        let free : waits cursors lane ≡ false
        = ap (λ (o : Option Course). not (lane == 0) && is_some o) is ∙ and_false (not (lane == 0)) in
        goes lane course (ap (λ b. cond b None (cursor_of cursors lane)) free ∙ stands)

    by : (over : Bool) → list_all is_none cursors ≡ over → BeginsLegal script journal
    by true all = record {
      more = [];
      legal = subst (IsLegal script) (sym (append-nil journal)) (record {
        so_far = so_far;
        ended = λ lane. next_none script journal cursors lane at (none_either (waits cursors lane) (cursor_of cursors lane) (no_cursor cursors all lane));
      });
    }
    by false left =
        let one = some_cursor cursors left in
        some one.0 (cursor_of cursors 0) (cursor_of cursors one.0) refl refl one.1

rest_of : (fuel : ℕ) (script : Script) (journal : List Entry) (cursors : List (Option Course)) → SoFar script journal → AreCursors script journal cursors
    → ahead script journal cursors < fuel → BeginsLegal script journal
rest_of zero script journal cursors so_far at lt = absurd (omega (arith, lt))
rest_of (suc fuel) script journal cursors so_far at lt =
    rest_by script journal cursors so_far at (λ longer next grown stand falls. rest_of fuel script longer next grown stand (omega (arith, falls, lt)))

-- the cursors of the first lanes before anything has run
firsts : (script : Script) (n : ℕ) → (cursors : List (Option Course)) × (length cursors ≡ n) × AreFirst script cursors
firsts script zero = ([], refl, none_first script)
firsts script (suc n) =
    let rest = firsts script n in
    let one = goes_from (suc (length script.lines)) script n 0 0 (omega arith) (reaches_self script n 0) in (
      rest.0 ++ one.to ∷ [],
      omega (arith, rest.1, length_push rest.0 one.to),
      one_more_first script rest.0 one.to rest.2
          (subst (λ lane. IsLaneCursor script [] lane one.to) (sym rest.1) (first_of_lane script n one.to one.goes)),
    )

-- Before anything has been entered the lanes can run to their end.
pub begins_at_all : (script : Script) → BeginsLegal script []
begins_at_all script =
    let first = firsts script (lanes script.lines + 1) in
    let at : AreCursors script [] first.0 = λ lane. all_first script first.0 lane first.1 first.2 in
    rest_of (suc (ahead script [] first.0)) script [] first.0 (λ k lt. absurd (omega (arith, lt))) at (omega arith)

-- where no lane has a line left
pub over_is_legal : (book : Recorded) → BookStands book → (over : Bool) → over ≡ list_all is_none book.cursors → over ≡ true
    → IsLegal book.script book.journal
over_is_legal book stands over is none = record {
  so_far = stands.so_far;
  ended = λ lane.
      next_none book.script book.journal book.cursors lane stands.cursors
      (none_either (waits book.cursors lane) (cursor_of book.cursors lane) (no_cursor book.cursors (sym is ∙ none) lane));
}

-- Whatever has been entered, the lanes can go on to their end.
pub goes_to_end : (book : Recorded) → BookStands book → BeginsLegal book.script book.journal
goes_to_end book stands =
    rest_of (suc (ahead book.script book.journal book.cursors)) book.script book.journal book.cursors stands.so_far stands.cursors (omega arith)

-- so what was entered before a part goes on too
pub goes_from_part : (script : Script) (journal earlier part : List Entry) → journal ≡ earlier ++ part → BeginsLegal script journal
    → BeginsLegal script earlier
goes_from_part script journal earlier part is goes = record {
  more = part ++ goes.more;
  legal = subst (IsLegal script) (ap (λ js. js ++ goes.more) is ∙ append_assoc earlier part goes.more) goes.legal;
}
