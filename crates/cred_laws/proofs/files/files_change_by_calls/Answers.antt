use Rattle.cred_laws.proofs.FileLaws.{files_change_by_calls}
use Rattle.cred_laws.proofs.files.files_change_by_calls.Goals as goal

pub returns : goal.returns
returns c = files_change_by_calls
