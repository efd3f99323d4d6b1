use Rattle.cred_laws.proofs.TraceLaws.{looks_into_own_alone}
use Rattle.cred_laws.proofs.trace.looks_into_own_alone.Goals as goal

pub returns : goal.returns
returns c = looks_into_own_alone
