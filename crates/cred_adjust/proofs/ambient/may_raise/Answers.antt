use Rattle.std.proofs.Common.{rules}
use Rattle.cred_adjust.proofs.ambient.may_raise.Goals as goal

pub returns-then-has-2 : goal.returns-then-has-2
returns-then-has-2 c = search rules
