use Rattle.std.proofs.Common.{◌≡◌, ◌∙◌, length, map, sym, ap}
use Rattle.std.proofs.lemmas.List.Edits.{map_over_more}
use Rattle.cred_model.specs.Dumpable.{flagged}
use Rattle.cred_model.proofs.Overwritten.{written, changed_all}
use Rattle.cred_dumpable.proofs.flags.DumpableFlags.set.Goals as goal

pub loop-flag-preserved : goal.loop-flag-preserved
loop-flag-preserved c =
    let f = flagged c.args.process c.args.dumpable in
    rw (c.set.ensures ∙ ap f (sym c.flag-item.is))
    (map_over_more f c.deref_mut-flag-items.result.now c.loop-flag.flag-items c.loop-flag.flag-index c.flag-item.result
    c.loop-flag-test.true c.loop-flag.invariant c.flag-item.is)

pub returns : goal.returns
returns c =
    let f = flagged c.args.process c.args.dumpable in
    let flags = c.self.inside.flags.items in
    let before = c.deref_mut-flag-items.result.now in
    let i = c.loop-flag.flag-index in
    let each : c.loop-flag.flag-items ≡ map f flags
    = c.loop-flag.invariant
    ∙ changed_all f before i c.loop-flag-test.false
    ∙ ap (map f) c.deref_mut-flag-items.ensures.value in
    rw (← c.self.view_is)
    (written c.loop-flag.flag-items flags c.self.inside.flags.len
    (c.loop-flag.auto.flag-items ∙ ap length c.deref_mut-flag-items.ensures.value)
    (sym c.deref_mut-flag-items.ensures.len ∙ sym c.loop-flag.auto.flag-items)
    ∙ each)
