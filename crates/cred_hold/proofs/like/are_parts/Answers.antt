use Rattle.std.proofs.Common.{arith}
use Rattle.cred_hold.proofs.Changed.{AreCaps, changed-is}
use Rattle.cred_hold.proofs.like.are_parts.Goals as goal

pub returns : goal.returns
returns c d is valid =
    let caps : AreCaps c.args.parts.now = record {
      perm = omega (arith, c.bits.ensures.value, c.bits.ensures.caps);
      eff = omega (arith, c.bits-2.ensures.value, c.bits-2.ensures.caps);
      amb = omega (arith, c.bits-3.ensures.value, c.bits-3.ensures.caps);
    } in
    changed-is d c.args.parts.now c.args.groups.now is c.are_ids.ensures c.are_ids-2.ensures caps valid c.are_given.ensures
