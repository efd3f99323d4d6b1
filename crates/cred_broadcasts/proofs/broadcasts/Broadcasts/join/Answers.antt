use Rattle.std.proofs.Common.{◌≡◌, ◌∙◌, ap, set, Result, Ok, Err, OnOk, OnErr, sym, subst, rules, tests}
use Rattle.std.specs.List.{position}
use Rattle.std.proofs.lemmas.Iterator.{YieldsList-from_slice}
use Rattle.std.proofs.lemmas.Iterator.Search.{position_from_yields_List}
use Rattle.std.proofs.lemmas.List.{set-get_or}
use Rattle.std.proofs.lemmas.Result.{on_ok_weaker}
use Rattle.cred_model.specs.Broadcasts.{waits_in}
use Rattle.cred_broadcasts.specs.Broadcasts.{AreBroadcasts}
use Rattle.cred_broadcasts.proofs.Joined.{joined_nowhere, joined_place}
use Rattle.cred_broadcasts.proofs.Kept.{are_joined}
use Rattle.cred_broadcasts.proofs.broadcasts.Broadcasts.join.Goals as goal

by_result : {X E P Q : Type 0} (R : Type 0) (result : Result X E) → OnOk result P → OnErr result Q → (P → R) → (Q → R) → R
by_result R (Ok x) ok err done same = done ok
by_result R (Err e) ok err done same = same err

pub returns-in_default-clause-ok : goal.returns-in_default-clause-ok
returns-in_default-clause-ok c =
    let broadcasts = c.self.inside.broadcasts.items in
    let place : c.position.result ≡ position (waits_in c.args.parent) broadcasts
    = position_from_yields_List (waits_in c.args.parent) _ _ _ c.position.ensures.ran
    (YieldsList-from_slice broadcasts (c.iter.ensures.rest ∙ c.deref.ensures.value)) (λ x b q k. search (rules, tests)) in
    rw (← c.self.view_is) (joined_nowhere c.args.parent c.args.child broadcasts (sym place ∙ c.in_default.is))

pub invariant_of-self : goal.invariant_of-self
invariant_of-self c =
    let broadcasts = c.self.inside.broadcasts.items in
    let broadcast = c.index_mut.result.now in
    let now = c.join.new.self in
    let place : c.position.result ≡ position (waits_in c.args.parent) broadcasts
    = position_from_yields_List (waits_in c.args.parent) _ _ _ c.position.ensures.ran
    (YieldsList-from_slice broadcasts (c.iter.ensures.rest ∙ c.deref.ensures.value)) (λ x b q k. search (rules, tests)) in
    by_result (AreBroadcasts (set broadcasts c.in-Some.place now)) c.join.result c.join.ensures.ok c.join.ensures.err
    (λ joins.
    subst AreBroadcasts
    (sym
    (joined_place c.args.parent c.args.child broadcasts c.in-Some.place broadcast now c.self.invariant.apart (sym place ∙ c.in-Some.is)
    c.index_mut.ensures.value joins))
    (are_joined c.args.parent c.args.child broadcasts (rw (← c.self.view_is) at c.requires) c.self.invariant))
    (λ same.
    subst AreBroadcasts (sym (ap (set broadcasts c.in-Some.place) (same ∙ c.index_mut.ensures.value) ∙ set-get_or broadcasts c.in-Some.place broadcast))
    c.self.invariant)

pub returns-clause-ok : goal.returns-clause-ok
returns-clause-ok c =
    let broadcasts = c.self.inside.broadcasts.items in
    let place : c.position.result ≡ position (waits_in c.args.parent) broadcasts
    = position_from_yields_List (waits_in c.args.parent) _ _ _ c.position.ensures.ran
    (YieldsList-from_slice broadcasts (c.iter.ensures.rest ∙ c.deref.ensures.value)) (λ x b q k. search (rules, tests)) in
    rw (← c.self.view_is)
    (on_ok_weaker c.join.result
    (joined_place c.args.parent c.args.child broadcasts c.in-Some.place c.index_mut.result.now c.join.new.self c.self.invariant.apart
    (sym place ∙ c.in-Some.is) c.index_mut.ensures.value) c.join.ensures.ok)
