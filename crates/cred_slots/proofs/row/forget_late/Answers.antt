use Rattle.std.proofs.Common.{arith}
use Rattle.cred_slots.specs.Rows.{without_late}
use Rattle.cred_slots.proofs.Rows.{map-is}
use Rattle.cred_slots.proofs.row.forget_late.Goals as goal

pub returns : goal.returns
returns c =
    let rows = c.args.rows.now in
    map-is without_late rows c.loop-row.rows (omega arith) (λ k h. c.loop-row.invariant.before k (omega arith))
