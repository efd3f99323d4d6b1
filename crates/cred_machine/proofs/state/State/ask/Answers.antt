use Rattle.std.proofs.Common.{rules}
use Rattle.cred_machine.proofs.state.State.ask.Goals as goal

pub returns-in-Some : goal.returns-in-Some
returns-in-Some c = search rules
