use Rattle.cred_fits.proofs.EntriesFit.{entries_fit}
use Rattle.cred_fits.proofs.laws.entries_fit.Goals as goal

pub returns : goal.returns
returns c = entries_fit
