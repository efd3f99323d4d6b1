use Rattle.cred_fits.proofs.EventsFit.{events_fit}
use Rattle.cred_fits.proofs.laws.events_fit.Goals as goal

pub returns : goal.returns
returns c = events_fit
