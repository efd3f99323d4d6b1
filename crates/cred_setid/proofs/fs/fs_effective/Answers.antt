use Rattle.std.proofs.Common.{rules}
use Rattle.cred_setid.proofs.fs.fs_effective.Goals as goal

pub returns-then-is_root-clause-value : goal.returns-then-is_root-clause-value
returns-then-is_root-clause-value c = search rules
