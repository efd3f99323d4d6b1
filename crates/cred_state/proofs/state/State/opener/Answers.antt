use Rattle.std.proofs.Common.{rules}
use Rattle.cred_state.proofs.state.State.opener.Goals as goal

pub returns-in_err-number : goal.returns-in_err-number
returns-in_err-number c = search rules

pub returns : goal.returns
returns c = search rules
