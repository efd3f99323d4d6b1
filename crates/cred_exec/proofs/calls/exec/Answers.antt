use Rattle.std.proofs.Common.{rules}
use Rattle.cred_rules.specs.Exec.{exec}
use Rattle.cred_exec.proofs.calls.exec.Goals as goal

pub returns-in_err-caps : goal.returns-in_err-caps
unfolding exec
returns-in_err-caps c = search rules
