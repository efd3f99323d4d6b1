use Rattle.std.proofs.Common.{List, ◌++◌, ◌∷◌, [], map, ap, ◌∙◌}
use Rattle.std.proofs.lemmas.List.{take_all}
use Rattle.cred_model.specs.State.{OpenFile}
use Rattle.cred_machine.proofs.Taken.{more_one}
use Rattle.cred_machine.proofs.slots.add_openers.Goals as goal

pub loop-file-preserved : goal.loop-file-preserved
loop-file-preserved c =
    more_one c.args.files.now c.loop-file.file-index c.file-item.result c.loop-file-test.true c.file-item.is (λ (x : OpenFile). x.opener)
    c.args.numbers.now.items
    c.loop-file.numbers.items c.push.new.self.items
    (c.in_ok-push.ensures.items ∙ ap (λ (x : OpenFile). c.loop-file.numbers.items ++ x.opener ∷ []) c.file.view_is) c.loop-file.invariant

pub returns : goal.returns
returns c =
    c.loop-file.invariant
    ∙ ap (λ (xs : List OpenFile). c.args.numbers.now.items ++ map (λ (x : OpenFile). x.opener) xs)
    (take_all c.loop-file.file-index c.args.files.now c.loop-file-test.false)
