use Rattle.cred_laws.proofs.OverrideLaws.{overrides_leave_current}
use Rattle.cred_laws.proofs.overrides.overrides_leave_current.Goals as goal

pub returns : goal.returns
returns c = overrides_leave_current
