use Rattle.std.proofs.Common.{◌==◌, ap}
use Rattle.cred_model.specs.State.{Hold}
use Rattle.cred_machine.proofs.Closing.{released}
use Rattle.cred_machine.proofs.Seen.{placed, seen_state}
use Rattle.cred_machine.proofs.state.State.release.Goals as goal

pub returns-clause-ok : goal.returns-clause-ok
returns-clause-ok c =
    let s = seen_state c.self.inside in
    let it = c.index.result.now in
    let at = placed (λ (x : Hold). x.label == c.args.label) s.holds _ c.in-Some.place it c.deref.ensures.value c.in-Some.ensures c.index.ensures in
    rw (← c.self.view_is)
    (released s c.args.label c.in-Some.place c.behind-self.inside.number it _ _ at.0 at.1 (ap (λ (x : Hold). x.number) c.behind-self.view_is)
    c.remove.ensures.items c.in_ok-push.ensures.items)
