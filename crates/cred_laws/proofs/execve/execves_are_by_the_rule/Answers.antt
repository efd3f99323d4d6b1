use Rattle.cred_laws.proofs.ExecveLaws.{execves_are_by_the_rule}
use Rattle.cred_laws.proofs.execve.execves_are_by_the_rule.Goals as goal

pub returns : goal.returns
returns c = execves_are_by_the_rule
