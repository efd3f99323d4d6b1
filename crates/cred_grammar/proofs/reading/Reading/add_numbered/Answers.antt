use Rattle.std.proofs.Common.{rules}
use Rattle.cred_grammar.proofs.reading.Reading.add_numbered.Goals as goal

pub returns-in-Err-Bad : goal.returns-in-Err-Bad
returns-in-Err-Bad c = search rules
