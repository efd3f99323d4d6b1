-- Once the setup has ended, the script's files stay as they are.
use Rattle.std.proofs.Common.{◌≡◌, ◌≢◌, ℕ, Bool, true, false, List, slice_get, Option, Some, refl, sym, ap, ◌∙◌, subst}
use Rattle.std.specs.List.{All}
use Rattle.std.specs.Option.{option_and_then}
use Rattle.std.proofs.lemmas.Option.{get_or_from_slice_get, slice_get_within}
use Rattle.cred_event.specs.declared.event.Event.{Event}
use Rattle.cred_event.specs.declared.entry.Entry.{Entry}
use Rattle.cred_model.specs.Script.{Script, Line}
use Rattle.cred_model.specs.State.{State}
use Rattle.cred_model.specs.FileChanges.{ChangesInSetup, FixesFiles, event_changes}
use Rattle.cred_model.specs.Course.{Course, event_at}
use Rattle.cred_model.specs.Journal.{entry_of, replay}
use Rattle.cred_model.proofs.FileChanges.{event_of_change}
use Rattle.cred_model.proofs.Journals.{replay-push}
use Rattle.cred_sound.proofs.Inodes.{keeps_inodes}
use Rattle.cred_course.specs.Cursor.{IsLaneCursor}
use Rattle.cred_course.proofs.Courses.{line_is}
use Rattle.cred_course.proofs.Lanes.{same_lane}
use Rattle.cred_course.proofs.Turns.{stands_at}
use Rattle.cred_book.specs.Book.{Recorded, inodes_in}
use Rattle.cred_book.proofs.NextEvents.{event_of}
use Rattle.cred_book.proofs.Works.{GoesOn, grown}

-- what is so of all lines is so of the one at a place
line_fixed : (lines : List Line) (place : ℕ) (line : Line) → All ChangesInSetup lines
    → slice_get lines place ≡ Some line → ChangesInSetup line
line_fixed lines place line fixed here =
    subst ChangesInSetup (get_or_from_slice_get lines place line line here)
    (fixed place line (slice_get_within lines place line here))

-- an event of another lane changes no file
changes_none : (script : Script) (journal : List Entry) (lane : ℕ) (course : Course) (event : Event)
    → FixesFiles script → IsLaneCursor script journal lane (Some course)
    → event_of script course ≡ Some event → lane ≢ 0 → event_changes event ≡ false
changes_none script journal lane course event fixed at has other = by (event_changes event) refl
  where
    line : Line
    line = at.0.line

    makes : event_at line.content course ≡ Some event
    makes =
        sym (ap (option_and_then (λ (l : Line). event_at l.content course)) (line_is script journal course at.0))
        ∙ has

    by : (b : Bool) → event_changes event ≡ b → event_changes event ≡ false
    by false is = is
    by true is =
        let setup : line.lane ≡ 0
        = line_fixed script.lines at.0.place line fixed at.0.here
        (event_of_change line.content course event makes is) in
        absurd (other (sym (same_lane line.lane lane at.0.own) ∙ setup))

-- so no entry of it does
pub files_stay : {book : Recorded} {lane : ℕ} {course : Course} {event : Event} {to : Option Course}
    → GoesOn book lane course event to → lane ≢ 0
    → (replay book.script (grown book lane course event to)).inodes ≡ inodes_in book
files_stay {book = book} {lane = lane} {course = course} {event = event} goes other =
    let script = book.script in
    let entry : Entry = entry_of script book.journal (record { line = course.line; event = event }) in
    let at = stands_at script book.journal book.cursors lane course goes.stands.cursors goes.due in
    ap (λ (s : State). s.inodes) (replay-push script book.journal entry)
    ∙ keeps_inodes script (replay script book.journal) course.line event
    (changes_none script book.journal lane course event goes.stands.fixed at goes.has other)
