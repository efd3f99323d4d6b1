use Rattle.std.proofs.Common.{◌<◌, length, rules, arith}
use Rattle.cred_spelling.proofs.LineCount.{lines_ended, lines_open}
use Rattle.cred_spelling.proofs.lines.line_count.Goals as goal

pub returns-then-bytes-eq10 : goal.returns-then-bytes-eq10
returns-then-bytes-eq10 c =
    let some : 0 < length c.args.bytes.now = search rules in
    let lines = lines_ended c.args.bytes.now some c.if-bytes-eq10.true in
    record { count = let ends = c.end_count-ends.ensures.count in omega arith }

pub returns-else-bytes-eq10 : goal.returns-else-bytes-eq10
returns-else-bytes-eq10 c =
    let some : 0 < length c.args.bytes.now = search rules in
    let lines = lines_open c.args.bytes.now some c.if-bytes-eq10.false in
    record { count = let ends = c.end_count-ends.ensures.count in omega arith }
