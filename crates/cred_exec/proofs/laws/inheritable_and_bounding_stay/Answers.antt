use Rattle.cred_exec.proofs.ExecLaws.{inheritable_and_bounding_stay}
use Rattle.cred_exec.proofs.laws.inheritable_and_bounding_stay.Goals as goal

pub returns : goal.returns
returns c = inheritable_and_bounding_stay
