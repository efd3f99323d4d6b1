use Rattle.std.proofs.Common.{arith}
use Rattle.cred_spelling.proofs.Hexadecimals.{fits}
use Rattle.cred_spelling.proofs.spellings.hexadecimal_number.Goals as goal

pub overflow_mul-number : goal.overflow_mul-number
overflow_mul-number c =
    let room = fits c.loop-byte.number c.loop-byte.byte-index c.loop-byte.invariant.small (omega arith) in omega arith

pub overflow_add-number : goal.overflow_add-number
overflow_add-number c =
    let room = fits c.loop-byte.number c.loop-byte.byte-index c.loop-byte.invariant.small (omega arith) in
    let digit = c.in_ok-digit.ensures.value in
    omega (arith, digit.0, digit.1)
