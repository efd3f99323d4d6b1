use Rattle.std.proofs.Common.{◌≡◌, is_some, refl, ap, ◌∙◌}
use Rattle.std.specs.declared.option.Option.{Option}
use Rattle.std.proofs.lemmas.Result.{IfOk-weaker}
use Rattle.cred_event.specs.declared.event.Event.{Event}
use Rattle.cred_model.specs.Course.{event_at}
use Rattle.cred_model.proofs.Courses.{makes_event}
use Rattle.cred_course.proofs.course.Course.event.Goals as goal

pub returns-clause-ended : goal.returns-clause-ended
returns-clause-ended c =
    let course = c.args.self.now in
    IfOk-weaker c.event_at.result (λ (event : Option Event). event ≡ event_at c.args.content.now course) (λ event. is_some event ≡ is_some course.stage)
    (λ event is. ap is_some is ∙ makes_event c.args.content.now course course.stage refl c.requires) c.event_at.ensures.event
