use Rattle.cred_exec.proofs.ExecLaws.{real_ids_and_groups_stay}
use Rattle.cred_exec.proofs.laws.real_ids_and_groups_stay.Goals as goal

pub returns : goal.returns
returns c = real_ids_and_groups_stay
