use Rattle.std.proofs.Common.{rules}
use Rattle.cred_ids.proofs.groups.Groups.has.Goals as goal

pub returns : goal.returns
returns c = search rules
