use Rattle.std.proofs.Common.{rules}
use Rattle.cred_report.proofs.entry.prepend_all.Goals as goal

pub returns : goal.returns
returns c = search rules
