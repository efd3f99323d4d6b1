use Rattle.std.proofs.Common.{rules}
use Rattle.cred_exec.proofs.sets.given_by.Goals as goal

pub returns : goal.returns
returns c = search rules
