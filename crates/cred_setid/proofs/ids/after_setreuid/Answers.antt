use Rattle.std.proofs.Common.{rules}
use Rattle.cred_rules.specs.SetId.{after_setreuid}
use Rattle.cred_setid.proofs.ids.after_setreuid.Goals as goal

pub returns : goal.returns
unfolding after_setreuid
returns c = search rules
