use Rattle.std.proofs.Common.{rules}
use Rattle.cred_rules.specs.SetId.{after_setuid}
use Rattle.cred_setid.proofs.ids.after_setuid.Goals as goal

pub returns-then-eq-2 : goal.returns-then-eq-2
unfolding after_setuid
returns-then-eq-2 c = search rules
