use Rattle.cred_plain.proofs.Busy.{busy_by}
use Rattle.cred_plain.proofs.broadcasts.begun_by.Goals as goal

pub returns : goal.returns
returns c = busy_by _ c.number_by.result c.number_by.ensures
