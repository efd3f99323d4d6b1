use Rattle.std.proofs.Common.{◌≡◌, ◌==◌, ◌||◌, false, ◌∙◌, sym, ap, subst, rules, tests}
use Rattle.std.specs.List.{list_any}
use Rattle.std.proofs.lemmas.Iterator.{YieldsList-from_slice}
use Rattle.std.proofs.lemmas.Iterator.Search.{any_from_yields_List}
use Rattle.cred_rules.specs.Attribute.{counts, counts_everywhere}
use Rattle.cred_filecap.proofs.chain.counts.Goals as goal

pub returns-else-caps-ne-VERSION_3 : goal.returns-else-caps-ne-VERSION_3
returns-else-caps-ne-VERSION_3 c =
    let found : c.any.result ≡ list_any (λ id. id == c.caps.inside.root) c.args.chain.now =
    any_from_yields_List (λ id. id == c.caps.inside.root) _ _ c.any.result c.any.ensures.ran (YieldsList-from_slice c.args.chain.now (cc))
    (λ x b q k. search (rules, tests)) in
    let version : c.caps.inside.version ≡ 3 = search (rules, tests) in
    let other : counts_everywhere c.caps.inside.version ≡ false = ap counts_everywhere version in
    subst (λ a. c.any.result ≡ counts a c.args.chain.now) c.caps.view_is
    (found ∙ sym (ap (λ b. b || list_any (λ id. id == c.caps.inside.root) c.args.chain.now) other))
