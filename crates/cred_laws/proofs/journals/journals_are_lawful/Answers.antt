use Rattle.cred_laws.proofs.Lawful.{lawful}
use Rattle.cred_laws.proofs.journals.journals_are_lawful.Goals as goal

pub returns : goal.returns
returns c = lawful
