use Rattle.std.proofs.Common.{List, ◌++◌, ◌∷◌, [], map, ap, ◌∙◌}
use Rattle.std.proofs.lemmas.List.{take_all}
use Rattle.cred_model.specs.State.{Prepared}
use Rattle.cred_machine.proofs.Taken.{more_one}
use Rattle.cred_machine.proofs.slots.add_bases.Goals as goal

pub loop-label-preserved : goal.loop-label-preserved
loop-label-preserved c =
    more_one c.args.prepared.now c.loop-label.label-index c.label-item.result c.loop-label-test.true c.label-item.is (λ (x : Prepared). x.base)
    c.args.numbers.now.items
    c.loop-label.numbers.items c.push.new.self.items
    (c.in_ok-push.ensures.items ∙ ap (λ (x : Prepared). c.loop-label.numbers.items ++ x.base ∷ []) c.label.view_is) c.loop-label.invariant

pub returns : goal.returns
returns c =
    c.loop-label.invariant
    ∙ ap (λ (xs : List Prepared). c.args.numbers.now.items ++ map (λ (x : Prepared). x.base) xs)
    (take_all c.loop-label.label-index c.args.prepared.now c.loop-label-test.false)
