use Rattle.cred_exec.proofs.ExecLaws.{other_securebits_stay}
use Rattle.cred_exec.proofs.laws.other_securebits_stay.Goals as goal

pub returns : goal.returns
returns c = other_securebits_stay
