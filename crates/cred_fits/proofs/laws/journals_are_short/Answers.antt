use Rattle.cred_fits.proofs.Spent.{short}
use Rattle.cred_fits.proofs.laws.journals_are_short.Goals as goal

pub returns : goal.returns
returns c = short
