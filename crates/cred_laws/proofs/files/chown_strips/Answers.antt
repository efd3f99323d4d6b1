use Rattle.cred_laws.proofs.FileLaws.{chown_strips}
use Rattle.cred_laws.proofs.files.chown_strips.Goals as goal

pub returns : goal.returns
returns c = chown_strips
