use Rattle.cred_spelling.proofs.FirstLine.{first_line_at, first_line_all}
use Rattle.cred_spelling.proofs.lines.any_line.Goals as goal

pub returns-then-end-bytes-clause-line : goal.returns-then-end-bytes-clause-line
returns-then-end-bytes-clause-line c =
    first_line_at c.args.bytes.now c.line_end-end.result c.if-end-bytes.true c.line_end-end.ensures.before (c.line_end-end.ensures.found c.if-end-bytes.true)

pub returns-else-end-bytes-clause-line : goal.returns-else-end-bytes-clause-line
returns-else-end-bytes-clause-line c =
    first_line_all c.args.bytes.now c.line_end-end.result c.requires c.if-end-bytes.false c.line_end-end.ensures.before
