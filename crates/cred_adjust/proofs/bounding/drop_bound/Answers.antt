use Rattle.std.proofs.Common.{rules}
use Rattle.cred_rules.specs.Adjust.{after_bound_drop}
use Rattle.cred_adjust.proofs.bounding.drop_bound.Goals as goal

pub returns-in_err-cap : goal.returns-in_err-cap
unfolding after_bound_drop
returns-in_err-cap c = search rules
