use Rattle.std.proofs.Common.{◌∙◌, ◌==◌, is_some, sym, ap}
use Rattle.cred_model.specs.State.{Task}
use Rattle.cred_plain.proofs.Stands.{alive_there, first_at, same_place}
use Rattle.cred_plain.proofs.tasks.Tasks.place.Goals as goal

pub returns-in-Some-clause-alive : goal.returns-in-Some-clause-alive
returns-in-Some-clause-alive c =
    let at = c.in-Some.ensures.lookup.3 in
    let t = c.in-Some.task.now in
    rw (← c.self.view_is, ← c.deref.ensures.value)
    (sym (alive_there c.args.number c.deref.result.now _ t at.0 (at.1 t) (ap (λ (u : Task). u.number) (sym c.task.view_is) ∙ c.if-task-number.true)))

pub returns-in_default-clause-place : goal.returns-in_default-clause-place
returns-in_default-clause-place c = first_at c.args.number c.args.self.now c.first_place.result c.first_place.ensures

pub returns-in_default-clause-alive : goal.returns-in_default-clause-alive
returns-in_default-clause-alive c =
    ap is_some c.first_place.ensures ∙ same_place (λ (t : Task). t.number == c.args.number) c.args.self.now
