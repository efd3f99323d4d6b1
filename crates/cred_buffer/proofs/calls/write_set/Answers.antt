use Rattle.std.proofs.Common.{◌≡◌, ◌++◌, false, codes, sym, ap, ◌∙◌}
use Rattle.std.proofs.DigitsParse.{digits_onto-nil}
use Rattle.std.specs.Fmt.{digits}
use Rattle.cred_buffer.proofs.calls.write_set.Goals as goal

zero : digits 16 false 0 ≡ codes "0"
zero = sym (digits_onto-nil 16 false 0)

full : digits 16 false 2199023255551 ≡ codes "1ffffffffff"
full = sym (digits_onto-nil 16 false 2199023255551)

pub returns-in-0-clause-text : goal.returns-in-0-clause-text
returns-in-0-clause-text c =
    let e : c.args.set ≡ 0 = sym c.bits.ensures.value ∙ c.in-0.is in
    rw (e, zero) (c.word.ensures.text ∙ ap (λ t. t ++ codes " 0") c.in_ok-reserve.ensures.text)

pub returns-in-2199023255551-clause-text : goal.returns-in-2199023255551-clause-text
returns-in-2199023255551-clause-text c =
    let e : c.args.set ≡ 2199023255551 = sym c.bits.ensures.value ∙ c.in-2199023255551.is in
    rw (e, full) (c.word-in-2199023255551.ensures.text ∙ ap (λ t. t ++ codes " 1ffffffffff") c.in_ok-reserve.ensures.text)
