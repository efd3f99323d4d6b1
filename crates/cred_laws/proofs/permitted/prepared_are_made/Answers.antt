use Rattle.cred_laws.proofs.MadeLaws.{made_after}
use Rattle.cred_laws.proofs.permitted.prepared_are_made.Goals as goal

pub returns : goal.returns
returns c = made_after
