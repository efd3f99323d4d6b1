use Rattle.cred_exec.proofs.ExecLaws.{privileged_files_empty_ambient}
use Rattle.cred_exec.proofs.laws.privileged_files_empty_ambient.Goals as goal

pub returns : goal.returns
returns c = privileged_files_empty_ambient
