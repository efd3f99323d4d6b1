use Rattle.cred_spelling.specs.Lines.{lines_of}
use Rattle.cred_grammar.proofs.FirstBadLine.{tells_first}
use Rattle.cred_grammar.proofs.script.read.Goals as goal

pub returns-clause-first : goal.returns-clause-first
returns-clause-first c = tells_first (lines_of c.args.bytes.now) c.read_lines.result c.read_lines.ensures.given
