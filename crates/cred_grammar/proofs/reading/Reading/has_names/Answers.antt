use Rattle.std.proofs.Common.{rules}
use Rattle.cred_grammar.proofs.reading.Reading.has_names.Goals as goal

pub returns-in-File : goal.returns-in-File
returns-in-File c = search rules
