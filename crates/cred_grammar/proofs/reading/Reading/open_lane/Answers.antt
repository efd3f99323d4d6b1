use Rattle.std.proofs.Common.{rules}
use Rattle.cred_grammar.proofs.reading.Reading.open_lane.Goals as goal

pub returns-clause-ok : goal.returns-clause-ok
returns-clause-ok c = search rules
