use Rattle.std.proofs.Common.{◌≡◌, ◌<◌, length, get_or, Option, Some, None, refl, sym, ap, ◌∙◌, subst}
use Rattle.cred_ids.specs.Limits.{LINE_LIMIT}
use Rattle.cred_model.specs.Course.{Course}
use Rattle.cred_model.specs.Journal.{replay}
use Rattle.cred_course.specs.LaneCursors.{due_of}
use Rattle.cred_course.proofs.Turns.{lane_has_place}
use Rattle.cred_tables.specs.Out.{AreOut}
use Rattle.cred_work.specs.Decisions.{work_event}
use Rattle.cred_book.specs.Book.{Recorded}
use Rattle.cred_book.specs.Cursor.{BookStands, moved_on}
use Rattle.cred_book.proofs.Cursors.{due_counts, due_found, due_goes_on, due_of_line, lane_has_out}
use Rattle.cred_book.proofs.Handed.{ComesBack, at_home, back_in, comes_back, course_is, work_course}
use Rattle.cred_book.proofs.Places.{all_home}
use Rattle.cred_book.proofs.book.Book.finish.Goals as goal

pub unreachable-requires : goal.unreachable-requires
unreachable-requires c =
    let book : Recorded = c.args.self.now in
    let none : due_of book.cursors c.args.lane ≡ None = due_found _ book c.args.lane _ _ c.self.view_is c.due.ensures c.in_default.is in
    let at = (work_course book c.args.lane c.args.work c.requires.stands c.requires.lanes).1 in
    let both : Some at.course ≡ None = sym at.is ∙ none in
    absurd (cc)

pub enter_decided-requires-clause-line : goal.enter_decided-requires-clause-line
enter_decided-requires-clause-line c =
    let book : Recorded = c.args.self.now in
    let here : due_of book.cursors c.args.lane ≡ Some c.in-Some.course
    = due_found _ book c.args.lane _ _ c.self.view_is c.due.ensures c.in-Some.is in
    due_of_line book c.args.lane c.in-Some.course c.requires.stands here

pub enter_decided-requires-clause-number : goal.enter_decided-requires-clause-number
enter_decided-requires-clause-number c =
    let book : Recorded = c.args.self.now in
    let here : due_of book.cursors c.args.lane ≡ Some c.in-Some.course
    = due_found _ book c.args.lane _ _ c.self.view_is c.due.ensures c.in-Some.is in
    course_is book c.args.lane c.args.work c.in-Some.course c.requires.stands c.requires.lanes here

pub enter_decided-requires-clause-going : goal.enter_decided-requires-clause-going
enter_decided-requires-clause-going c =
    let book : Recorded = c.args.self.now in
    let here : due_of book.cursors c.args.lane ≡ Some c.in-Some.course
    = due_found _ book c.args.lane _ _ c.self.view_is c.due.ensures c.in-Some.is in
    due_goes_on book c.args.lane c.in-Some.course c.requires.stands here

pub take_home-requires : goal.take_home-requires
take_home-requires c =
    let book : Recorded = c.args.self.now in
    let here : due_of book.cursors c.args.lane ≡ Some c.in-Some.course
    = due_found _ book c.args.lane _ _ c.self.view_is c.due.ensures c.in-Some.is in
    record {
      place = subst (λ (b : Recorded). c.args.lane < length b.outs) (sym c.in_ok-cursor.ensures.entered.same)
          (lane_has_out book c.args.lane c.in-Some.course c.requires.stands here);
    }

pub move_on-requires : goal.move_on-requires
move_on-requires c =
    let book : Recorded = c.args.self.now in
    let course : Course = c.in-Some.course in
    let here : due_of book.cursors c.args.lane ≡ Some course
    = due_found _ book c.args.lane _ _ c.self.view_is c.due.ensures c.in-Some.is in
    let may = due_counts book c.args.lane course c.requires.stands here in
    let same : c.take_home.new.self
    ≡ at_home (back_in book c.args.work.line (work_event c.args.work.lent) c.enter_decided.new.self.words c.enter_decided.new.self.places) c.args.lane
    = c.take_home.ensures ∙ ap (λ (b : Recorded). at_home b c.args.lane) c.in_ok-cursor.ensures.entered.same in
    record {
      cursors = subst (λ (b : Recorded). c.args.lane < length b.cursors) (sym same) (lane_has_place book.cursors c.args.lane course here);
      counts = subst (λ (b : Recorded). c.args.lane < length b.ended) (sym same) may.0;
      few = subst (λ (b : Recorded). get_or b.ended c.args.lane 0 < LINE_LIMIT) (sym same) may.1;
    }

pub returns : goal.returns
returns c =
    let book : Recorded = c.args.self.now in
    let course : Course = c.in-Some.course in
    let lane = c.args.lane in
    let to : Option Course = c.in_ok-cursor.cursor in
    let entered : Recorded = c.enter_decided.new.self in
    let here : due_of book.cursors lane ≡ Some course
    = due_found _ book lane _ _ c.self.view_is c.due.ensures c.in-Some.is in
    let out : AreOut (replay book.script book.journal) book.words.out
    = subst (λ (r : Recorded). AreOut (replay r.script r.journal) r.words.out) c.self.view_is c.self.invariant.1 in
    let same : c.move_on.new.self ≡ moved_on (at_home entered lane) lane course.line to
    = c.move_on.ensures ∙ ap (λ (b : Recorded). moved_on b lane c.line.result to) c.take_home.ensures
    ∙ ap (λ n. moved_on (at_home entered lane) lane n to) c.line.ensures.value in
    let m : ComesBack book c.move_on.new.self lane c.args.work
    = subst (λ b. ComesBack book b lane c.args.work) (sym same)
    (comes_back book entered lane course to c.args.work c.requires.stands out c.requires.lanes here c.in_ok-cursor.ensures.entered
    c.in_ok-cursor.ensures.passes) in
    record {
      script = m.script;
      earlier = ap (λ (b : Recorded). b.earlier) (same ∙ ap (λ (b : Recorded). moved_on (at_home b lane) lane course.line to) c.in_ok-cursor.ensures.entered.same);
      cells = m.cells;
      stands = m.stands;
      more = refl;
      made = m.made;
      falls = m.falls;
      counts = m.counts;
      in_place = c.check_in_place-2.ensures;
      home = all_home c.move_on.new.self m.stands;
      files = m.files;
      err = tt;
    }

pub returns-in_err-cursor-clause-home : goal.returns-in_err-cursor-clause-home
returns-in_err-cursor-clause-home c =
    all_home c.enter_decided.new.self (subst BookStands (sym c.in_err-cursor.ensures.err.1) c.requires.stands)
