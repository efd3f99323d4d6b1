use Rattle.std.proofs.Common.{refl, sym, ◌∙◌}
use Rattle.cred_tables.proofs.Bags.{bag-at}
use Rattle.cred_state.proofs.Seen.{seen_state}
use Rattle.cred_state.proofs.Overrides.{lends, lent_kept, lent_done}
use Rattle.cred_tables.proofs.Sealing.{referred_to}
use Rattle.cred_state.proofs.Standing.{held-in_use}
use Rattle.cred_state.proofs.state.State.override_with.Goals as goal

pub add-requires-clause-referred : goal.add-requires-clause-referred
add-requires-clause-referred c =
    let t = c.self.inside in
    let has = rw (← c.self.view_is) at c.in-Some.ensures in
    referred_to t.slots c.reserve.new.self _ _ c.in_ok-reserve.ensures.ok
    (bag-at c.in-Some.field-0.number c.self.invariant.0.counted.counts
    (held-in_use (seen_state t) c.args.label _ (sym has)))

pub invariant_of-self-2 : goal.invariant_of-self-2
invariant_of-self-2 c =
    let sound = rw (← c.self.view_is) at c.requires.sound in
    let number = c.in-Some.field-0.number in
    let lent = lends c.self.inside.tasks c.push_override.new.self c.args.task (sym c.alive.ensures ∙ c.if-not-alive.false) number c.push_override.result
    c.push_override.ensures.pushed c.push_override.ensures.tasks c.if-not-push_override.false in
    let t = c.self.inside in
    let has = rw (← c.self.view_is) at c.in-Some.ensures in (
      lent_kept c.self.invariant.0 c.args.task c.push_override.new.self sound.tasks number lent c.reserve.new.self c.add.new.self
          c.in_ok-reserve.ensures.ok c.add.ensures.held c.add.ensures.table
          (bag-at number c.self.invariant.0.counted.counts
          (held-in_use (seen_state t) c.args.label _ (sym has))),
      c.self.invariant.1,
    )

pub returns-clause-ok : goal.returns-clause-ok
returns-clause-ok c =
    let sound = rw (← c.self.view_is) at c.requires.sound in
    let has = rw (← c.self.view_is) at c.in-Some.ensures in
    let number = c.in-Some.field-0.number in
    let lent = lends c.self.inside.tasks c.push_override.new.self c.args.task (sym c.alive.ensures ∙ c.if-not-alive.false) number c.push_override.result
    c.push_override.ensures.pushed c.push_override.ensures.tasks c.if-not-push_override.false in
    rw (← c.self.view_is)
    (lent_done c.self.invariant.0 c.args.task c.push_override.new.self sound.tasks number lent c.reserve.new.self c.add.new.self
    c.in_ok-reserve.ensures.ok c.add.ensures.held c.add.ensures.table c.args.label _ (sym has) refl)

pub invariant_of-self : goal.invariant_of-self
invariant_of-self c = rw c.in_err-reserve.ensures.err c.self.invariant
