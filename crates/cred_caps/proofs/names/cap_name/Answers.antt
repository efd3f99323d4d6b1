use Rattle.std.proofs.Common.{rules}
use Rattle.cred_caps.specs.Names.{cap_names}
use Rattle.cred_caps.proofs.names.cap_name.Goals as goal

pub returns : goal.returns
unfolding cap_names
returns c = search rules
