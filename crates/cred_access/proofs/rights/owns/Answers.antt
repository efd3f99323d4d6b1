use Rattle.std.proofs.Common.{rules}
use Rattle.cred_access.proofs.rights.owns.Goals as goal

pub returns : goal.returns
returns c = search rules
