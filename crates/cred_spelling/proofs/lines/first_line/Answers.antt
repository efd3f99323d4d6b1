use Rattle.std.proofs.Common.{sym, arith}
use Rattle.cred_spelling.proofs.FirstLine.{first_line_at, first_line_all, no_end_before, printable_before, printable_all}
use Rattle.cred_spelling.proofs.lines.first_line.Goals as goal

pub returns-then-end-bytes-clause-line : goal.returns-then-end-bytes-clause-line
returns-then-end-bytes-clause-line c =
    first_line_all c.args.bytes.now c.printable_end-end.result c.requires (omega arith)
    (no_end_before c.args.bytes.now c.printable_end-end.result c.printable_end-end.ensures.before)

pub returns-then-end-bytes-clause-printable : goal.returns-then-end-bytes-clause-printable
returns-then-end-bytes-clause-printable c =
    sym (printable_all c.args.bytes.now c.printable_end-end.result (omega arith) c.printable_end-end.ensures.before)

pub returns-then-bytes-end-eq10-clause-line : goal.returns-then-bytes-end-eq10-clause-line
returns-then-bytes-end-eq10-clause-line c =
    first_line_at c.args.bytes.now c.printable_end-end.result (omega arith)
    (no_end_before c.args.bytes.now c.printable_end-end.result c.printable_end-end.ensures.before) c.if-bytes-end-eq10.true

pub returns-then-bytes-end-eq10-clause-printable : goal.returns-then-bytes-end-eq10-clause-printable
returns-then-bytes-end-eq10-clause-printable c =
    sym (printable_before c.args.bytes.now c.printable_end-end.result c.printable_end-end.ensures.within c.printable_end-end.ensures.before)
