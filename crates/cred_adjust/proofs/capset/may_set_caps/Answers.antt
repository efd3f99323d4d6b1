use Rattle.std.proofs.Common.{rules}
use Rattle.cred_adjust.proofs.capset.may_set_caps.Goals as goal

pub returns-else-within : goal.returns-else-within
returns-else-within c = search rules
