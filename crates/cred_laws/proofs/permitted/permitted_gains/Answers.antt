use Rattle.cred_laws.proofs.PermittedLaws.{permitted_gains}
use Rattle.cred_laws.proofs.permitted.permitted_gains.Goals as goal

pub returns : goal.returns
returns c = permitted_gains
