use Rattle.cred_exec.proofs.ExecLaws.{no_new_privs_gains_nothing}
use Rattle.cred_exec.proofs.laws.no_new_privs_gains_nothing.Goals as goal

pub returns : goal.returns
returns c = no_new_privs_gains_nothing
