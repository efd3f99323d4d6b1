use Rattle.std.proofs.Common.{arith}
use Rattle.cred_caps.proofs.CapsLemmas.{caps}
use Rattle.cred_caps.proofs.set.CapSet.within.Goals as goal

pub returns : goal.returns
returns c = grind (arith, caps)
