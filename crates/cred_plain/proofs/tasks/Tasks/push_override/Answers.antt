use Rattle.std.proofs.Common.{◌<◌, length, ℕ, ◌∷◌, List, sym}
use Rattle.std.proofs.lemmas.Result.{on_ok_weaker}
use Rattle.cred_model.specs.State.{Task}
use Rattle.cred_model.proofs.Places.{if_some}
use Rattle.cred_plain.proofs.Places.{found_one, one_none, one_overrides}
use Rattle.cred_plain.proofs.tasks.Tasks.push_override.Goals as goal

pub returns-clause-ok : goal.returns-clause-ok
returns-clause-ok c =
    let tasks = c.self.inside.list.items in
    rw (← c.self.view_is)
    (on_ok_weaker c.push.result
    (one_overrides c.args.task tasks c.in-Some.place c.index_mut.result.now (rw (← c.self.view_is) at (sym c.in-Some.ensures)) c.index_mut.ensures.value
    (λ (os : List ℕ). c.args.number ∷ os) c.push.new.self)
    c.push.ensures.ok)

pub returns-in_default-clause-ok : goal.returns-in_default-clause-ok
returns-in_default-clause-ok c = one_none _ _ c.args.task (sym c.in_default.ensures)

pub push-requires : goal.push-requires
push-requires c =
    if_some (λ (t : Task). length t.overrides < 8) _ c.index_mut.result.now
    (found_one c.args.task c.self.inside.list.items c.in-Some.place c.index_mut.result.now (rw (← c.self.view_is) at (sym c.in-Some.ensures))
    c.index_mut.ensures.value)
    (rw (← c.self.view_is) at c.requires)
