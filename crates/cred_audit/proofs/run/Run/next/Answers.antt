use Rattle.std.proofs.Common.{is_some, sym, ap, ◌∙◌}
use Rattle.cred_course.proofs.Turns.{lane_has_place}
use Rattle.cred_audit.specs.declared.run.Run.{Run}
use Rattle.cred_audit.proofs.Runs.{course_is_due, run_is_sound, stops, goes_on_by}
use Rattle.cred_audit.proofs.run.Run.next.Goals as goal

pub returns-in_default-clause-ok : goal.returns-in_default-clause-ok
returns-in_default-clause-ok c = stops c.args.script.now c.args.lane c.args.self.now (sym c.due.ensures ∙ c.in_default.is)

pub returns-in_default-2-clause-ok : goal.returns-in_default-2-clause-ok
returns-in_default-2-clause-ok c =
    let due = ap is_some (sym c.in_default-2.is ∙ c.in_ok-event.ensures.event)
    ∙ course_is_due c.args.script.now c.args.self.now c.args.lane c.in-Some.course (sym c.due.ensures ∙ c.in-Some.is) c.requires in
    cc

pub step-requires-clause-sound : goal.step-requires-clause-sound
step-requires-clause-sound c = run_is_sound c.args.script.now c.args.self.now c.requires

pub move_on-requires : goal.move_on-requires
move_on-requires c = lane_has_place c.args.self.now.cursors c.args.lane c.in-Some.course (sym c.due.ensures ∙ c.in-Some.is)

pub returns-clause-ok : goal.returns-clause-ok
returns-clause-ok c =
    let run : Run = c.args.self.now in
    goes_on_by c.args.script.now c.args.lane run _ c.in-Some.course c.in-Some-2.event c.line-line.result c.in_ok-answer.answer c.cursor_after-cursor.result
    (sym c.due.ensures ∙ c.in-Some.is) (sym c.in_ok-event.ensures.event ∙ c.in-Some-2.is) c.line-line.ensures.value
    c.in_ok-answer.ensures.ok c.cursor_after-cursor.ensures c.move_on.ensures
