use Rattle.std.proofs.Common.{◌≡◌, ap, sym, ◌∙◌, is_some}
use Rattle.cred_rules.specs.Files.{is_attr}
use Rattle.cred_rules.specs.Attribute.{attribute_of}
use Rattle.cred_attr.proofs.Decoded.{decided}
use Rattle.cred_attr.proofs.attribute.is_attr.Goals as goal

pub returns-in-Some : goal.returns-in-Some
returns-in-Some c =
    c.is_ok.ensures.value
    ∙ decided c.items.result.now c.decode.result c.decode.ensures.value c.decode.ensures.each_value
    ∙ ap (λ bytes. is_some (attribute_of bytes)) c.items.ensures
    ∙ ap is_attr (sym c.in-Some.is)
