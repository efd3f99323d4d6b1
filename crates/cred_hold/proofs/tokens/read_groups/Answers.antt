use Rattle.std.proofs.Common.{ap, ◌∙◌, arith}
use Rattle.cred_words.proofs.Opens.{width_is}
use Rattle.cred_hold.proofs.tokens.read_groups.Goals as goal

pub gather-requires : goal.gather-requires
gather-requires c =
    let i = c.hold.invariant in
    let w = width_is in
    (omega arith, (ap (λ h. h.id) c.hold.view_is ∙ c.requires, (i.0, (i.2, omega arith))))
