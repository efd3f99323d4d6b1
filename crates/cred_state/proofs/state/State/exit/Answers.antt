use Rattle.std.proofs.Common.{sym, refl, ◌∙◌}
use Rattle.cred_model.specs.Ends.{is_task}
use Rattle.cred_model.specs.Broadcasts.{waits_no_more}
use Rattle.cred_state.proofs.Broadcasts.{kept_beside}
use Rattle.cred_tables.proofs.Ending.{drops_all, left-held, ended_kept, exit_done}
use Rattle.cred_state.proofs.Overrides.{alive_is}
use Rattle.cred_state.proofs.state.State.exit.Goals as goal

pub drop_all-requires : goal.drop_all-requires
drop_all-requires c =
    left-held c.self.invariant.0 (is_task c.args.task) c.items.result.now c.self.inside.slots.held (c.items.ensures ∙ c.in_ok-numbers.ensures.numbers) refl

pub invariant_of-self-2 : goal.invariant_of-self-2
invariant_of-self-2 c =
    let t = c.self.inside.slots in
    let all = drops_all t {m = t.spare} refl (c.items.ensures ∙ c.in_ok-numbers.ensures.numbers) c.drop_all.ensures.held c.drop_all.ensures.table in
    rw (c.in_ok-numbers.ensures.tasks, c.remove_task.ensures) (
      kept_beside (ended_kept c.self.invariant.0 (is_task c.args.task) c.drop_all.new.slots all)
          (waits_no_more c.args.task c.self.inside.broadcasts) c.exit_in.new.flags,
      c.self.invariant.1,
    )

pub returns-clause-ok : goal.returns-clause-ok
returns-clause-ok c =
    let t = c.self.inside.slots in
    let idle = rw (← c.self.view_is) at c.in_default.ensures in
    let own = rw (← c.self.view_is) at c.in_default-overridden.ensures in
    let lives = alive_is c.self.inside.tasks c.args.task (sym c.alive.ensures ∙ c.if-not-alive.false) in
    let all = drops_all t {m = t.spare} refl (c.items.ensures ∙ c.in_ok-numbers.ensures.numbers) c.drop_all.ensures.held c.drop_all.ensures.table in
    let flags = c.in_ok-numbers.ensures.flags lives.0 lives.1 in
    rw (← c.self.view_is, c.in_ok-numbers.ensures.tasks, c.remove_task.ensures, flags)
    (exit_done c.self.invariant.0 c.args.task c.drop_all.new.slots all lives.0 lives.1 idle own)
