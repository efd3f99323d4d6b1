use Rattle.std.proofs.Common.{◌≡◌, ◌∙◌, length, map, sym, ap}
use Rattle.std.proofs.lemmas.List.Edits.{map_over_more}
use Rattle.cred_model.specs.Moves.{updated}
use Rattle.cred_model.proofs.Overwritten.{written, changed_all}
use Rattle.cred_plain.proofs.tasks.Tasks.set_current.Goals as goal

pub loop-other-preserved : goal.loop-other-preserved
loop-other-preserved c =
    let f = updated c.args.task c.args.number in
    rw (c.update.ensures ∙ ap f (sym c.other-item.is))
    (map_over_more f c.deref_mut-other-items.result.now c.loop-other.other-items c.loop-other.other-index c.other-item.result
    c.loop-other-test.true c.loop-other.invariant c.other-item.is)

pub returns : goal.returns
returns c =
    let f = updated c.args.task c.args.number in
    let tasks = c.self.inside.list.items in
    let before = c.deref_mut-other-items.result.now in
    let i = c.loop-other.other-index in
    let each : c.loop-other.other-items ≡ map f tasks
    = c.loop-other.invariant
    ∙ changed_all f before i c.loop-other-test.false
    ∙ ap (map f) c.deref_mut-other-items.ensures.value in
    rw (← c.self.view_is)
    (written c.loop-other.other-items tasks c.self.inside.list.len
    (c.loop-other.auto.other-items ∙ ap length c.deref_mut-other-items.ensures.value)
    (sym c.deref_mut-other-items.ensures.len ∙ sym c.loop-other.auto.other-items)
    ∙ each)
