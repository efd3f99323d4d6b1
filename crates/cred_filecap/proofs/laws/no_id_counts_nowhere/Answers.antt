use Rattle.cred_filecap.proofs.AttributeLaws.{no_id_counts_nowhere}
use Rattle.cred_filecap.proofs.laws.no_id_counts_nowhere.Goals as goal

pub returns : goal.returns
returns c = no_id_counts_nowhere
