use Rattle.cred_laws.proofs.RawLaws.{raws_leave_others}
use Rattle.cred_laws.proofs.raw.raws_leave_others.Goals as goal

pub returns : goal.returns
returns c = raws_leave_others
