use Rattle.cred_fits.proofs.EntriesFit.{one_fitting_list}
use Rattle.cred_fits.proofs.laws.one_fitting_list.Goals as goal

pub returns : goal.returns
returns c = one_fitting_list
