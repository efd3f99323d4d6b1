use Rattle.std.proofs.Common.{rules}
use Rattle.cred_grammar.proofs.uses.has_files.Goals as goal

pub returns-in-Some : goal.returns-in-Some
returns-in-Some c = search rules
