use Rattle.cred_exec.proofs.ExecLaws.{gains_are_what_is_gained}
use Rattle.cred_exec.proofs.laws.gains_are_what_is_gained.Goals as goal

pub returns : goal.returns
returns c = gains_are_what_is_gained
