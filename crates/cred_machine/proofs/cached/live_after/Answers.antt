use Rattle.std.proofs.Common.{rules}
use Rattle.cred_machine.proofs.cached.live_after.Goals as goal

pub returns-in-Acted : goal.returns-in-Acted
returns-in-Acted c = search rules
