use Rattle.std.proofs.Common.{rules}
use Rattle.cred_rules.specs.SetId.{after_setresuid}
use Rattle.cred_setid.proofs.ids.after_setresuid.Goals as goal

pub returns : goal.returns
unfolding after_setresuid
returns c = search rules
