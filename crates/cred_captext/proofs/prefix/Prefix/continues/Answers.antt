use Rattle.std.proofs.Common.{true, sym, ◌∙◌}
use Rattle.cred_captext.specs.Names.{lowercase_name}
use Rattle.cred_captext.proofs.PrefixLemmas.{goes-on, goes-off, prefix-size}
use Rattle.cred_captext.proofs.prefix.Prefix.continues.Goals as goal

pub returns-then-share : goal.returns-then-share
returns-then-share c =
    let size = prefix-size c.self.inside.cap c.self.inside.read c.args.self.now c.self.view_is
    c.self.invariant.within in
    let prefix = c.share.ensures.0 c.if-share.true ∙ c.self.view_is in
    goes-on (lowercase_name c.args.cap) c.args.self.now c.args.byte c.self.inside.read c.has_at.result size
    prefix c.has_at.ensures

pub returns-else-share : goal.returns-else-share
returns-else-share c =
    let size = prefix-size c.self.inside.cap c.self.inside.read c.args.self.now c.self.view_is
    c.self.invariant.within in
    let prefix = c.share.ensures in
    goes-off (lowercase_name c.args.cap) c.args.self.now c.args.byte c.self.inside.read c.share.result
    size (
      λ t. prefix.0 t ∙ c.self.view_is,
      λ same. prefix.1 (same ∙ sym c.self.view_is),
    )
    c.if-share.false
