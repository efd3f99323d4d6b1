use Rattle.std.proofs.Common.{rules}
use Rattle.cred_report.proofs.numbers.prepend_arg.Goals as goal

pub returns-in-Keep-clause-text : goal.returns-in-Keep-clause-text
returns-in-Keep-clause-text c = search rules
