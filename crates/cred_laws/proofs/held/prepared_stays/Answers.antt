use Rattle.cred_laws.proofs.PreparedLaws.{prepared_stays}
use Rattle.cred_laws.proofs.held.prepared_stays.Goals as goal

pub returns : goal.returns
returns c = prepared_stays
