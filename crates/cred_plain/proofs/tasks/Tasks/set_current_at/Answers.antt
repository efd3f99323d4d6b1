use Rattle.std.proofs.Common.{refl}
use Rattle.cred_plain.proofs.Stands.{current_at}
use Rattle.cred_plain.proofs.tasks.Tasks.set_current_at.Goals as goal

pub returns : goal.returns
returns c =
    let t = c.index_mut.result.now in
    rw (← c.self.view_is)
    (current_at c.self.inside.list.items _ c.args.place c.args.number t c.index_mut.ensures.value (rw (← c.self.view_is) at c.requires)
    (rw (← c.behind-self.view_is) refl))
