use Rattle.std.proofs.Common.{◌+◌, ◌*◌, ◌^◌, ap, ◌∙◌, arith}
use Rattle.cred_record.specs.Words.{flags_word}
use Rattle.cred_record.proofs.WordLemmas.{or-flags, from_bool-small}
use Rattle.cred_packed.proofs.writing.flags.Goals as goal

pub returns : goal.returns
returns c =
    let nnp = from_bool-small c.cred.inside.nnp in
    let bits = c.from-2.ensures ∙ c.number.ensures.value in
    or-flags c.len.result c.from.result c.from-2.result c.len.ensures.limit (omega arith) (omega arith) ∙
    (λ k. c.len.ensures.value k * 2 ^ 16 + (c.from.ensures k * 2 ^ 8 + bits k)) ∙
    ap flags_word c.cred.view_is
