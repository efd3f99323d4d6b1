use Rattle.std.proofs.Common.{rules}
use Rattle.cred_rules.specs.Adjust.{after_capset}
use Rattle.cred_adjust.proofs.capset.set_caps.Goals as goal

pub returns : goal.returns
unfolding after_capset
returns c = search rules
