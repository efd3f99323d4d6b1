use Rattle.std.proofs.Common.{rules}
use Rattle.cred_access.proofs.real.access_effective.Goals as goal

pub returns-else-is_root-clause-value : goal.returns-else-is_root-clause-value
returns-else-is_root-clause-value c = search rules
