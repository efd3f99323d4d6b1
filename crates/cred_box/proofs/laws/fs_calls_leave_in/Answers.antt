use Rattle.cred_box.proofs.IdCalls as proved
use Rattle.cred_box.proofs.laws.fs_calls_leave_in.Goals as goal

pub returns : goal.returns
returns c = proved.fs_calls_leave_in
