use Rattle.std.proofs.Common.{sym, ◌∙◌}
use Rattle.cred_state.proofs.Overrides.{reverts, newest-held, revert_kept}
use Rattle.cred_tables.proofs.Sealing.{drops}
use Rattle.cred_state.proofs.state.State.revert.Goals as goal

pub drop_later-requires : goal.drop_later-requires
drop_later-requires c =
    let sound = rw (← c.self.view_is) at c.requires in
    let back = reverts c.self.inside.tasks c.pop_override.new.self c.args.task (sym c.alive.ensures ∙ c.if-not-alive.false) c.in-Some.number
    c.in-Some.ensures.number c.in-Some.ensures.tasks in
    newest-held c.self.invariant.0 c.args.task c.pop_override.new.self sound.tasks c.in-Some.number back

pub invariant_of-self-2 : goal.invariant_of-self-2
invariant_of-self-2 c =
    let sound = rw (← c.self.view_is) at c.requires in
    let back = reverts c.self.inside.tasks c.pop_override.new.self c.args.task (sym c.alive.ensures ∙ c.if-not-alive.false) c.in-Some.number
    c.in-Some.ensures.number c.in-Some.ensures.tasks in (
      revert_kept c.self.invariant.0 c.args.task c.pop_override.new.self sound.tasks c.in-Some.number back c.drop_later.new.self
          (drops c.drop_later.ensures.held c.drop_later.ensures.table),
      c.self.invariant.1,
    )
