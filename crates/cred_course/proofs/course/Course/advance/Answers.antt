use Rattle.std.proofs.Common.{◌<◌, refl, sym, subst}
use Rattle.cred_model.specs.Course.{Leads, left}
use Rattle.cred_model.proofs.Courses.{leads_on}
use Rattle.cred_course.proofs.course.Course.advance.Goals as goal

pub returns-clause-leads : goal.returns-clause-leads
returns-clause-leads c =
    let course = c.args.self.now in
    let content = c.args.content.now in
    subst (Leads content) (sym c.after.ensures)
    (leads_on content course c.args.answer.now course.stage refl c.requires.goes_on c.requires.leads).leads

pub returns-clause-falls : goal.returns-clause-falls
returns-clause-falls c = λ bounded.
    let course = c.args.self.now in
    let content = c.args.content.now in
    subst (λ next. left next < left course) (sym c.after.ensures)
    ((leads_on content course c.args.answer.now course.stage refl c.requires.goes_on c.requires.leads).falls bounded)
