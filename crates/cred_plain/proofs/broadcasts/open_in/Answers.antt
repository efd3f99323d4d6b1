use Rattle.cred_plain.proofs.Busy.{busy_by}
use Rattle.cred_plain.proofs.broadcasts.open_in.Goals as goal

pub returns : goal.returns
returns c = busy_by _ c.number_in.result c.number_in.ensures
