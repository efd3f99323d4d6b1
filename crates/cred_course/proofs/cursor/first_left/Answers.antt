use Rattle.std.proofs.Common.{sym, ◌∙◌, subst}
use Rattle.cred_course.specs.Cursor.{MovesOnFrom}
use Rattle.cred_course.proofs.Courses.{passes_ended}
use Rattle.cred_course.proofs.cursor.first_left.Goals as goal

pub returns-then-ended : goal.returns-then-ended
returns-then-ended c =
    passes_ended c.args.script.now c.args.lane c.args.course c.first_after.result (sym c.ended.ensures ∙ c.if-ended.true)
    (subst (λ number. MovesOnFrom c.args.script.now c.args.lane number c.first_after.result) c.line.ensures.value c.first_after.ensures)
