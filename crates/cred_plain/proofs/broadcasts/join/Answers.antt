use Rattle.std.proofs.Common.{◌≡◌, ◌∙◌, sym, rules, tests}
use Rattle.std.specs.List.{position}
use Rattle.std.proofs.lemmas.Iterator.{YieldsList-from_slice}
use Rattle.std.proofs.lemmas.Iterator.Search.{position_from_yields_List}
use Rattle.std.proofs.lemmas.Result.{on_ok_weaker}
use Rattle.cred_model.specs.Broadcasts.{waits_in}
use Rattle.cred_plain.proofs.Joined.{joined_nowhere, joined_place}
use Rattle.cred_plain.proofs.broadcasts.join.Goals as goal

pub returns-in_default-clause-ok : goal.returns-in_default-clause-ok
returns-in_default-clause-ok c =
    let broadcasts = c.args.broadcasts.now.items in
    let place : c.position.result ≡ position (waits_in c.args.parent) broadcasts
    = position_from_yields_List (waits_in c.args.parent) _ _ _ c.position.ensures.ran
    (YieldsList-from_slice broadcasts (c.iter.ensures.rest ∙ c.deref.ensures.value)) (λ x b q k. search (rules, tests)) in
    joined_nowhere c.args.parent c.args.child broadcasts (sym place ∙ c.in_default.is)

pub returns-clause-ok : goal.returns-clause-ok
returns-clause-ok c =
    let broadcasts = c.args.broadcasts.now.items in
    let place : c.position.result ≡ position (waits_in c.args.parent) broadcasts
    = position_from_yields_List (waits_in c.args.parent) _ _ _ c.position.ensures.ran
    (YieldsList-from_slice broadcasts (c.iter.ensures.rest ∙ c.deref.ensures.value)) (λ x b q k. search (rules, tests)) in
    on_ok_weaker c.join.result
    (joined_place c.args.parent c.args.child broadcasts c.in-Some.place c.index_mut.result.now c.join.new.self c.requires
    (sym place ∙ c.in-Some.is) c.index_mut.ensures.value) c.join.ensures.ok
