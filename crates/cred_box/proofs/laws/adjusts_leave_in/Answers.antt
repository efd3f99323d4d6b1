use Rattle.cred_box.proofs.Adjusts as proved
use Rattle.cred_box.proofs.laws.adjusts_leave_in.Goals as goal

pub returns : goal.returns
returns c = proved.adjusts_leave_in
