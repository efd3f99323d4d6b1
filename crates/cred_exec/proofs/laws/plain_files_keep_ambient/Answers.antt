use Rattle.cred_exec.proofs.ExecLaws.{plain_files_keep_ambient}
use Rattle.cred_exec.proofs.laws.plain_files_keep_ambient.Goals as goal

pub returns : goal.returns
returns c = plain_files_keep_ambient
