use Rattle.std.proofs.Common.{sym, ◌∙◌, arith}
use Rattle.cred_record.proofs.HalfWords.{half-even, half-odd}
use Rattle.cred_packed.proofs.reading.half.Goals as goal

pub returns-then-place-eq0 : goal.returns-then-place-eq0
returns-then-place-eq0 c = let even = c.if-place-eq0.true in c.low.ensures ∙ sym (half-even c.args.word c.args.place (omega arith))

pub returns-else-place-eq0 : goal.returns-else-place-eq0
returns-else-place-eq0 c = let odd = c.if-place-eq0.false in c.high.ensures ∙ sym (half-odd c.args.word c.args.place (omega arith))
