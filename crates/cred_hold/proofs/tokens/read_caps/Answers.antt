use Rattle.std.proofs.Common.{ap, ◌∙◌, arith}
use Rattle.cred_words.proofs.Opens.{width_is}
use Rattle.cred_hold.proofs.tokens.read_caps.Goals as goal

pub gather-requires : goal.gather-requires
gather-requires c =
    let i = c.hold.invariant in
    let w = width_is in
    (omega arith, (ap (λ h. h.id) c.hold.view_is ∙ c.requires, (i.0, (i.2, omega arith))))

pub caps_from_valid-requires : goal.caps_from_valid-requires
caps_from_valid-requires c = (c.hold.inside.inner.token.words, c.hold.invariant.3, c.gather.ensures.words)
