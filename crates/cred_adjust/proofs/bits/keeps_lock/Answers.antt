use Rattle.std.proofs.Common.{rules}
use Rattle.cred_adjust.proofs.bits.keeps_lock.Goals as goal

pub returns-then-locked : goal.returns-then-locked
returns-then-locked c = search rules
