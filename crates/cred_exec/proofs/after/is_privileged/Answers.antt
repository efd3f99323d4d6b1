use Rattle.std.proofs.Common.{rules}
use Rattle.cred_exec.proofs.after.is_privileged.Goals as goal

pub returns-then-sets_user : goal.returns-then-sets_user
returns-then-sets_user c = search rules

pub returns-else-sets_user : goal.returns-else-sets_user
returns-else-sets_user c = search rules
