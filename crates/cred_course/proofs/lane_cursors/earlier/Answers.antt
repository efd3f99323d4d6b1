use Rattle.std.proofs.Common.{arith, sym, ◌∙◌, subst}
use Rattle.cred_course.specs.LaneCursors.{IsNoLater, cursor_of}
use Rattle.cred_course.proofs.Least.{first_earlier, second_earlier, no_later_by, nothing_later}
use Rattle.cred_course.proofs.lane_cursors.earlier.Goals as goal

pub returns-in_default : goal.returns-in_default
returns-in_default c =
    let one = cursor_of c.args.cursors.now c.args.one in
    first_earlier c.args.cursors.now c.args.one c.args.other
    (subst (IsNoLater one) (sym (sym c.cursor_of.ensures ∙ c.in_default.is)) (nothing_later one))

pub returns-in_default-cursor_of : goal.returns-in_default-cursor_of
returns-in_default-cursor_of c =
    let other = cursor_of c.args.cursors.now c.args.other in
    second_earlier c.args.cursors.now c.args.one c.args.other
    (subst (IsNoLater other) (sym (sym c.cursor_of-2.ensures ∙ c.in_default-cursor_of.is)) (nothing_later other))

pub returns-then-line : goal.returns-then-line
returns-then-line c =
    let first = c.line.ensures.value in
    let second = c.line-2.ensures.value in
    first_earlier c.args.cursors.now c.args.one c.args.other
    (no_later_by _ _ c.in-Some-cursor_of.first c.in-Some.second (sym c.cursor_of-2.ensures ∙ c.in-Some-cursor_of.is) (sym c.cursor_of.ensures ∙ c.in-Some.is)
    (omega (arith, first, second, c.if-line.true)))

pub returns-else-line : goal.returns-else-line
returns-else-line c =
    let first = c.line.ensures.value in
    let second = c.line-2.ensures.value in
    second_earlier c.args.cursors.now c.args.one c.args.other
    (no_later_by _ _ c.in-Some.second c.in-Some-cursor_of.first (sym c.cursor_of.ensures ∙ c.in-Some.is) (sym c.cursor_of-2.ensures ∙ c.in-Some-cursor_of.is)
    (omega (arith, first, second, c.if-line.false)))
