use Rattle.cred_laws.proofs.HeldLaws.{hold_stays}
use Rattle.cred_laws.proofs.held.hold_stays.Goals as goal

pub returns : goal.returns
returns c = hold_stays
