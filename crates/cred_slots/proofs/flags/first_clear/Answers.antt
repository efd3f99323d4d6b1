use Rattle.std.proofs.Common.{w64, arith, rules}
use Rattle.std.proofs.lemmas.Nat.Bits.{bit_at-trailing_ones, bit_at_ones}
use Rattle.cred_slots.proofs.flags.first_clear.Goals as goal

pub returns-then-word-eq18446744073709551615 : goal.returns-then-word-eq18446744073709551615
returns-then-word-eq18446744073709551615 c = rw c.if-word-eq18446744073709551615.true (bit_at_ones 64)

pub returns-else-word-eq18446744073709551615 : goal.returns-else-word-eq18446744073709551615
returns-else-word-eq18446744073709551615 c = search (rules, bit_at-trailing_ones w64 c.args.word (omega arith))
