use Rattle.cred_laws.proofs.CallLaws.{no_new_privs_stays}
use Rattle.cred_laws.proofs.calls.no_new_privs_stays.Goals as goal

pub returns : goal.returns
returns c = no_new_privs_stays
