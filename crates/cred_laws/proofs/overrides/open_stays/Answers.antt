use Rattle.cred_laws.proofs.OverrideLaws.{open_stays}
use Rattle.cred_laws.proofs.overrides.open_stays.Goals as goal

pub returns : goal.returns
returns c = open_stays
