use Rattle.std.proofs.Common.{◌∙◌}
use Rattle.cred_machine.proofs.Seen.{seen_state}
use Rattle.cred_machine.proofs.Steps.{replaces}
use Rattle.cred_machine.proofs.state.State.replace.Goals as goal

pub returns-clause-ok : goal.returns-clause-ok
returns-clause-ok c =
    replaces c.args.self.now c.args.old c.args.cred c.args.slot c.args.swept
    (seen_state c.self.inside) c.args.task c.in_ok-number.number c.set_current.new.self
    (c.self.view_is ∙ c.in_ok-number.ensures.ok) c.in_ok-number.ensures.number
    c.set_current.ensures
