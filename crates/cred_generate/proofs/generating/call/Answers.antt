use Rattle.std.proofs.Common.{rules}
use Rattle.cred_generate.proofs.generating.call.Goals as goal

pub returns-in-1 : goal.returns-in-1
returns-in-1 c = search rules
