use Rattle.std.proofs.Common.{subst}
use Rattle.cred_kernel.specs.Locks.{Contents}
use Rattle.cred_kernel.specs.Turns.{AreCounted}
use Rattle.cred_kernel.proofs.Closing.{close_counts}
use Rattle.cred_kernel.proofs.rest.Rest.close.Goals as goal

pub returns-clause-counts : goal.returns-clause-counts
returns-clause-counts g c =
    let kept = close_counts g.K.Name.script g.K.Name.roll g.K.Name.cells g.K.Name.inodes c.locked.inside.book c.locked.inside.roll c.args.turns
    c.locked.invariant c.take_all.ensures c.requires.all in
    rw (← c.self.view_is) (subst (λ (held : Contents). AreCounted g.K.Name.script held.journal c.args.turns) c.locked.view_is kept)
