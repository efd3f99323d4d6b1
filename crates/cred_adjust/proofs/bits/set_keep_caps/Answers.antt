use Rattle.std.proofs.Common.{rules}
use Rattle.cred_rules.specs.Adjust.{after_keep_caps}
use Rattle.cred_adjust.proofs.bits.set_keep_caps.Goals as goal

pub returns-then-locked : goal.returns-then-locked
unfolding after_keep_caps
returns-then-locked c = search rules
