use Rattle.std.proofs.Common.{sym}
use Rattle.cred_plain.specs.Creds.{seen_numbered}
use Rattle.cred_machine.proofs.Overrides.{lends, not_deep, said_of}
use Rattle.cred_machine.proofs.Seen.{seen_state}
use Rattle.cred_machine.proofs.state.State.override_with.Goals as goal

pub returns-clause-ok : goal.returns-clause-ok
returns-clause-ok c =
    let s = seen_state c.self.inside in
    let lives = sym c.in-Some.ensures in
    let sound = rw (← c.self.view_is) at c.requires in
    rw (← c.self.view_is)
    (lends s c.args.task c.args.label c.in-Some.owner.now lives (seen_numbered c.in-Some-held.field-0)
    (rw (← c.self.view_is) at (sym c.in-Some-held.ensures)) _
    (not_deep _ c.depth-depth.result c.depth-depth.ensures c.if-depth.false)
    (said_of s.tasks c.args.task _ c.in-Some.owner.now sound.tasks lives c.in_ok-push_override.ensures.ok))
