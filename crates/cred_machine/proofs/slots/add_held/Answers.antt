use Rattle.std.proofs.Common.{List, ◌++◌, ◌∷◌, [], map, ap, ◌∙◌}
use Rattle.std.proofs.lemmas.List.{take_all}
use Rattle.cred_model.specs.State.{Hold}
use Rattle.cred_machine.proofs.Taken.{more_one}
use Rattle.cred_machine.proofs.slots.add_held.Goals as goal

pub loop-hold-preserved : goal.loop-hold-preserved
loop-hold-preserved c =
    more_one c.args.holds.now c.loop-hold.hold-index c.hold-item.result c.loop-hold-test.true c.hold-item.is (λ (x : Hold). x.number) c.args.numbers.now.items
    c.loop-hold.numbers.items c.push.new.self.items
    (c.in_ok-push.ensures.items ∙ ap (λ (x : Hold). c.loop-hold.numbers.items ++ x.number ∷ []) c.hold.view_is) c.loop-hold.invariant

pub returns : goal.returns
returns c =
    c.loop-hold.invariant
    ∙ ap (λ (xs : List Hold). c.args.numbers.now.items ++ map (λ (x : Hold). x.number) xs)
    (take_all c.loop-hold.hold-index c.args.holds.now c.loop-hold-test.false)
