use Rattle.cred_box.proofs.Execves as proved
use Rattle.cred_box.proofs.laws.execves_leave_in.Goals as goal

pub returns : goal.returns
returns c = proved.execves_leave_in
