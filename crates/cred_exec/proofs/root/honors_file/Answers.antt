use Rattle.std.proofs.Common.{rules}
use Rattle.cred_exec.proofs.root.honors_file.Goals as goal

pub returns-then-not-is_root : goal.returns-then-not-is_root
returns-then-not-is_root c = search rules

pub returns-else-not-is_root : goal.returns-else-not-is_root
returns-else-not-is_root c = search rules
