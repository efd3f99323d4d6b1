use Rattle.std.proofs.Common.{rules}
use Rattle.cred_exec.proofs.after.limited.Goals as goal

pub returns-else-cred : goal.returns-else-cred
returns-else-cred c = search rules
