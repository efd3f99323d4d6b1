use Rattle.std.proofs.Common.{arith}
use Rattle.cred_caps.proofs.SecureLemmas.{flags}
use Rattle.cred_caps.proofs.secure.SecureBits.locked.Goals as goal

pub returns : goal.returns
returns c = grind (arith, flags)
