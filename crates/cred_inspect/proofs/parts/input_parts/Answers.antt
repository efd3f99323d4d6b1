use Rattle.std.proofs.Common.{◌<◌, length, sym, rules}
use Rattle.cred_inspect.proofs.ReportLine.{passed_found, passed_line}
use Rattle.cred_inspect.proofs.parts.input_parts.Goals as goal

pub returns-then-is : goal.returns-then-is
returns-then-is c =
    let some : 0 < length c.loop-rest.rest.now = search rules in
    rw c.behind-after.ensures
    (sym (passed_found c.args.input.now c.loop-rest.rest.now c.first_line.result.0.now _ c.loop-rest.invariant some c.first_line.ensures.line (search rules)))

pub loop-rest-preserved : goal.loop-rest-preserved
loop-rest-preserved c =
    let some : 0 < length c.loop-rest.rest.now = search rules in
    rw c.behind-after.ensures
    (passed_line c.args.input.now c.loop-rest.rest.now c.first_line.result.0.now _ c.loop-rest.invariant some c.first_line.ensures.line (search rules))
