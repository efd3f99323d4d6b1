use Rattle.cred_inspect.proofs.OneLine.{no_record_gets_two_lines}
use Rattle.cred_inspect.proofs.laws.no_record_gets_two_lines.Goals as goal

pub returns : goal.returns
returns c = no_record_gets_two_lines
