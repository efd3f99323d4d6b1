use Rattle.std.proofs.Common.{◌≡◌, ◌<◌, length, get_or, false, Option, Some, None, is_some, refl, sym, ap, ◌∙◌, subst}
use Rattle.std.specs.Option.{IfSome, option_and_then}
use Rattle.cred_ids.specs.Limits.{LINE_LIMIT}
use Rattle.cred_event.specs.declared.event.Event.{Event}
use Rattle.cred_model.specs.Script.{Script, Line}
use Rattle.cred_model.specs.Course as model
use Rattle.cred_model.specs.Course.{Course, event_at}
use Rattle.cred_model.specs.Journal.{replay}
use Rattle.cred_model.specs.Named.{IsEventOf}
use Rattle.cred_script.specs.Lines.{line_at}
use Rattle.cred_course.specs.Cursor.{IsOfLine, MovesOnTo}
use Rattle.cred_course.specs.LaneCursors.{due_of}
use Rattle.cred_course.proofs.Turns.{lane_has_place}
use Rattle.cred_work.specs.Work.{Work}
use Rattle.cred_tables.specs.Kept.{SharedWords}
use Rattle.cred_tables.specs.Out.{AreHome, needs_tokens}
use Rattle.cred_book.specs.Book.{Recorded, answer_of, inodes_in}
use Rattle.cred_book.specs.Cursor.{BookStands, moved_on}
use Rattle.cred_book.specs.Works.{GoesOut, IsHanded, with_work}
use Rattle.cred_book.proofs.Cursors.{due_counts, due_found, due_goes_on, due_makes, due_of_line, lane_has_out, none_counted, none_made}
use Rattle.cred_book.proofs.Handed.{EntersMore, HandsOut, enters_more, hands_out, made_event, put_in}
use Rattle.cred_book.proofs.LentTokens.{next_home}
use Rattle.cred_book.proofs.NextEvents.{event_of, next_is}
use Rattle.cred_book.proofs.Places.{all_home}
use Rattle.cred_book.proofs.Works.{GoesOn}
use Rattle.cred_book.proofs.book.Book.next.Goals as goal

pub returns-in_default : goal.returns-in_default
returns-in_default c =
    let book : Recorded = c.args.self.now in
    let none : due_of book.cursors c.args.lane ≡ None
    = due_found _ book c.args.lane _ _ c.self.view_is c.due.ensures c.in_default.is in
    record {
      script = refl;
      earlier = refl;
      cells = refl;
      stands = c.requires.stands;
      made = none_made book c.args.lane c.requires.stands none;
      falls = λ more. cc;
      counts = none_counted book c.args.lane c.requires.stands none;
      in_place = c.check_in_place.ensures;
      home = all_home book c.requires.stands;
      files = λ other. refl;
      err = tt;
    }

pub next_event-requires : goal.next_event-requires
next_event-requires c =
    let book : Recorded = c.args.self.now in
    let here : due_of book.cursors c.args.lane ≡ Some c.in-Some.course
    = due_found _ book c.args.lane _ _ c.self.view_is c.due.ensures c.in-Some.is in
    record {
      line =
          subst (λ (b : Recorded). IsOfLine b.script c.in-Some.course) (sym c.self.view_is)
          (due_of_line book c.args.lane c.in-Some.course c.requires.stands here);
    }

pub hand_out-requires-clause-home : goal.hand_out-requires-clause-home
hand_out-requires-clause-home c =
    let book : Recorded = c.args.self.now in
    let course : Course = c.in-Some.course in
    let here : due_of book.cursors c.args.lane ≡ Some course
    = due_found _ book c.args.lane _ _ c.self.view_is c.due.ensures c.in-Some.is in
    let has : event_of book.script course ≡ Some c.in-Some-2.event
    = made_event _ book course _ _ c.self.view_is c.in_ok-event.ensures.event c.in-Some-2.is in
    next_home book c.args.lane (record { line = course.line; event = c.in-Some-2.event }) c.requires.stands c.requires.home
    (next_is book.script book.journal book.cursors c.args.lane course c.in-Some-2.event c.requires.stands.cursors here has)

pub hand_out-requires-clause-place : goal.hand_out-requires-clause-place
hand_out-requires-clause-place c =
    let book : Recorded = c.args.self.now in
    let course : Course = c.in-Some.course in
    let here : due_of book.cursors c.args.lane ≡ Some course
    = due_found _ book c.args.lane _ _ c.self.view_is c.due.ensures c.in-Some.is in
    lane_has_out book c.args.lane course c.requires.stands here

pub returns-in-Some-3 : goal.returns-in-Some-3
returns-in-Some-3 c =
    let book : Recorded = c.args.self.now in
    let course : Course = c.in-Some.course in
    let here : due_of book.cursors c.args.lane ≡ Some course
    = due_found _ book c.args.lane _ _ c.self.view_is c.due.ensures c.in-Some.is in
    let has : event_of book.script course ≡ Some c.in-Some-2.event
    = made_event _ book course _ _ c.self.view_is c.in_ok-event.ensures.event c.in-Some-2.is in
    let lane = c.args.lane in
    let after : Recorded = c.hand_out.new.self in
    let work : Work = c.in-Some-3.work in
    let goes : GoesOut book after lane c.line-line.result c.in-Some-2.event work
    = subst (IsHanded book after lane c.line-line.result c.in-Some-2.event) c.in-Some-3.is c.in_ok-work.ensures.handed in
    let h : HandsOut book (with_work book lane work) lane work
    = hands_out book lane course work c.requires.stands c.requires.home (record {
      due = here;
      has = has ∙ ap Some (sym goes.event);
      line = sym (goes.line ∙ c.line-line.ensures.value);
      undecided = goes.undecided;
      waits = rw goes.event goes.waits;
      own = goes.own;
      tokens = rw goes.event goes.tokens;
      file = rw goes.event goes.file;
      chain = rw goes.event goes.chain;
    }) in
    let r : HandsOut book after lane work = subst (λ b. HandsOut book b lane work) (sym goes.lent) h in
    record {
      script = ap (λ (b : Recorded). b.script) goes.lent;
      earlier = ap (λ (b : Recorded). b.earlier) goes.lent;
      cells = ap (λ (b : Recorded). b.words.id) goes.lent;
      stands = r.stands;
      made = r.made;
      falls = λ more. cc;
      counts = r.counts;
      in_place = c.check_in_place-in-Some-3.ensures;
      home = all_home after r.stands;
      files = λ other. ap inodes_in goes.lent;
      err = tt;
    }

pub enter-requires-clause-kind : goal.enter-requires-clause-kind
enter-requires-clause-kind c =
    let book : Recorded = c.args.self.now in
    let back = subst (IsHanded book c.hand_out.new.self c.args.lane c.line-line.result c.in-Some-2.event) c.in_default-3.is c.in_ok-work.ensures.handed in
    let none : c.hand_out.new.self ≡ book = back.1 in
    let kind : IsEventOf (length book.script.files) book.script.namespaces c.in-Some-2.event
    = rw (← c.self.view_is)
    (subst (λ (o : Option Event). IfSome o (IsEventOf (length c.self.inside.script.files) c.self.inside.script.namespaces)) c.in-Some-2.is
    c.in_ok-event.ensures.named) in
    subst (λ (b : Recorded). IsEventOf (length b.script.files) b.script.namespaces c.in-Some-2.event) (sym none) kind

pub enter-requires-clause-line : goal.enter-requires-clause-line
enter-requires-clause-line c =
    let book : Recorded = c.args.self.now in
    let course : Course = c.in-Some.course in
    let here : due_of book.cursors c.args.lane ≡ Some course
    = due_found _ book c.args.lane _ _ c.self.view_is c.due.ensures c.in-Some.is in
    let back = subst (IsHanded book c.hand_out.new.self c.args.lane c.line-line.result c.in-Some-2.event) c.in_default-3.is c.in_ok-work.ensures.handed in
    let none : c.hand_out.new.self ≡ book = back.1 in
    subst (λ (b : Recorded). IsOfLine b.script course) (sym none) (due_of_line book c.args.lane course c.requires.stands here)

pub enter-requires-clause-home : goal.enter-requires-clause-home
enter-requires-clause-home c =
    let book : Recorded = c.args.self.now in
    let course : Course = c.in-Some.course in
    let here : due_of book.cursors c.args.lane ≡ Some course
    = due_found _ book c.args.lane _ _ c.self.view_is c.due.ensures c.in-Some.is in
    let has : event_of book.script course ≡ Some c.in-Some-2.event
    = made_event _ book course _ _ c.self.view_is c.in_ok-event.ensures.event c.in-Some-2.is in
    let home : AreHome c.in-Some-2.event book.words.out
    = next_home book c.args.lane (record { line = course.line; event = c.in-Some-2.event }) c.requires.stands c.requires.home
    (next_is book.script book.journal book.cursors c.args.lane course c.in-Some-2.event c.requires.stands.cursors here has) in
    let back = subst (IsHanded book c.hand_out.new.self c.args.lane c.line-line.result c.in-Some-2.event) c.in_default-3.is c.in_ok-work.ensures.handed in
    let none : c.hand_out.new.self ≡ book = back.1 in
    subst (λ (b : Recorded). AreHome c.in-Some-2.event b.words.out) (sym none) home

pub enter-requires-clause-going : goal.enter-requires-clause-going
enter-requires-clause-going c =
    let book : Recorded = c.args.self.now in
    let here : due_of book.cursors c.args.lane ≡ Some c.in-Some.course
    = due_found _ book c.args.lane _ _ c.self.view_is c.due.ensures c.in-Some.is in
    due_goes_on book c.args.lane c.in-Some.course c.requires.stands here

pub returns-in_default-2 : goal.returns-in_default-2
returns-in_default-2 c =
    let book : Recorded = c.args.self.now in
    let course : Course = c.in-Some.course in
    let here : due_of book.cursors c.args.lane ≡ Some course
    = due_found _ book c.args.lane _ _ c.self.view_is c.due.ensures c.in-Some.is in
    let script : c.self.inside.script ≡ book.script = ap (λ (b : Recorded). b.script) c.self.view_is in
    let event = ap is_some (sym c.in_default-2.is ∙ c.in_ok-event.ensures.event)
    ∙ ap (λ (s : Script). is_some (option_and_then (λ (l : Line). event_at l.content course) (line_at s course.line))) script
    ∙ due_makes book c.args.lane course c.requires.stands here in
    cc

pub move_on-requires : goal.move_on-requires
move_on-requires c =
    let book : Recorded = c.args.self.now in
    let course : Course = c.in-Some.course in
    let here : due_of book.cursors c.args.lane ≡ Some course
    = due_found _ book c.args.lane _ _ c.self.view_is c.due.ensures c.in-Some.is in
    let back = subst (IsHanded book c.hand_out.new.self c.args.lane c.line-line.result c.in-Some-2.event) c.in_default-3.is c.in_ok-work.ensures.handed in
    let none : c.hand_out.new.self ≡ book = back.1 in
    let may = due_counts book c.args.lane course c.requires.stands here in
    let places = c.enter.new.self.places in
    let same : put_in book course.line c.in-Some-2.event places ≡ c.enter.new.self
    = ap (λ (b : Recorded). put_in b course.line c.in-Some-2.event places) (sym none) ∙ sym c.in_ok-cursor.ensures.entered in
    record {
      cursors = subst (λ (b : Recorded). c.args.lane < length b.cursors) same (lane_has_place book.cursors c.args.lane course here);
      counts = subst (λ (b : Recorded). c.args.lane < length b.ended) same may.0;
      few = subst (λ (b : Recorded). get_or b.ended c.args.lane 0 < LINE_LIMIT) same may.1;
    }

pub returns : goal.returns
returns c =
    let book : Recorded = c.args.self.now in
    let course : Course = c.in-Some.course in
    let here : due_of book.cursors c.args.lane ≡ Some course
    = due_found _ book c.args.lane _ _ c.self.view_is c.due.ensures c.in-Some.is in
    let back = subst (IsHanded book c.hand_out.new.self c.args.lane c.line-line.result c.in-Some-2.event) c.in_default-3.is c.in_ok-work.ensures.handed in
    let none : c.hand_out.new.self ≡ book = back.1 in
    let event : Event = c.in-Some-2.event in
    let has : event_of book.script course ≡ Some event
    = made_event _ book course _ _ c.self.view_is c.in_ok-event.ensures.event c.in-Some-2.is in
    let lane = c.args.lane in
    let to : Option Course = c.in_ok-cursor.cursor in
    let after : Recorded = c.move_on.new.self in
    let places = c.enter.new.self.places in
    let same : moved_on (put_in book course.line event places) lane course.line to ≡ after
    = sym (c.move_on.ensures ∙ ap (λ (b : Recorded). moved_on b lane c.line-line.result to) c.in_ok-cursor.ensures.entered
    ∙ ap (λ n. moved_on (put_in c.hand_out.new.self course.line event places) lane n to) c.line-line.ensures.value
    ∙ ap (λ (b : Recorded). moved_on (put_in b course.line event places) lane course.line to) none) in
    let free : needs_tokens (replay book.script book.journal) event ≡ false
    = back.0 in
    let goes : GoesOn book lane course event to = record {
      stands = c.requires.stands;
      due = here;
      has = has;
      passes = subst (λ (r : Recorded). IfSome (line_at r.script course.line)
          (λ line. MovesOnTo r.script lane (model.after line.content course (answer_of r course.line event)) to)) none
          c.in_ok-cursor.ensures.passes;
    } in
    let e = enters_more goes places c.requires.home free in
    let m : EntersMore book after lane = subst (λ b. EntersMore book b lane) same e in
    record {
      script = m.script;
      earlier = ap (λ (b : Recorded). b.earlier) (sym same);
      cells = ap (λ (w : SharedWords). w.id) m.words;
      stands = m.stands;
      made = m.made;
      falls = λ more. m.falls;
      counts = m.counts;
      in_place = c.check_in_place-2.ensures;
      home = all_home after m.stands;
      files = m.files;
      err = tt;
    }

pub returns-in_err-event-clause-home : goal.returns-in_err-event-clause-home
returns-in_err-event-clause-home c = all_home c.args.self.now c.requires.stands

pub returns-in_err-work-clause-home : goal.returns-in_err-work-clause-home
returns-in_err-work-clause-home c =
    all_home c.hand_out.new.self (subst BookStands (sym c.in_err-work.ensures.err) c.requires.stands)

pub returns-in_err-cursor-clause-home : goal.returns-in_err-cursor-clause-home
returns-in_err-cursor-clause-home c =
    let book : Recorded = c.args.self.now in
    let back = subst (IsHanded book c.hand_out.new.self c.args.lane c.line-line.result c.in-Some-2.event) c.in_default-3.is c.in_ok-work.ensures.handed in
    let same : c.enter.new.self ≡ book = c.in_err-cursor.ensures.err ∙ back.1 in
    all_home c.enter.new.self (subst BookStands (sym same) c.requires.stands)
