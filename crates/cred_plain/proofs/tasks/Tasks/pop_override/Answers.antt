use Rattle.std.proofs.Common.{ℕ, List, drop, sym}
use Rattle.cred_plain.proofs.Places.{one_none, one_overrides}
use Rattle.cred_plain.proofs.tasks.Tasks.pop_override.Goals as goal

pub returns : goal.returns
returns c =
    let tasks = c.self.inside.list.items in
    rw (← c.self.view_is)
    (one_overrides c.args.task tasks c.in-Some.place c.index_mut.result.now (rw (← c.self.view_is) at (sym c.in-Some.ensures)) c.index_mut.ensures.value
    (λ (os : List ℕ). drop 1 os) c.pop.new.self c.pop.ensures)

pub returns-in_default : goal.returns-in_default
returns-in_default c = one_none _ _ c.args.task (sym c.in_default.ensures)
