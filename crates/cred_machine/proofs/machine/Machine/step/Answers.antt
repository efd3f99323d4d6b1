use Rattle.cred_machine.proofs.Forgetting.{step_keeps_sound}
use Rattle.cred_machine.proofs.machine.Machine.step.Goals as goal

pub invariant_of-self : goal.invariant_of-self
invariant_of-self c =
    step_keeps_sound c.self.inside.script.now c.self.inside.state c.step.new.self c.args.line c.args.event.now c.step.result c.self.invariant c.step.ensures.ok
    c.step.ensures.err
