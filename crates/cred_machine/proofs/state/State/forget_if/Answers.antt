use Rattle.cred_machine.proofs.state.State.forget_if.Goals as goal

pub returns-else-swept-clause-kept : goal.returns-else-swept-clause-kept
returns-else-swept-clause-kept c = c.requires c.if-swept.false
