use Rattle.std.proofs.Common.{[], ◌∷◌, ◌++◌, Option, is_some, ap, ◌∙◌}
use Rattle.std.specs.Option.{option_map_or}
use Rattle.cred_model.specs.State.{Task}
use Rattle.cred_model.specs.Moves.{first_task}
use Rattle.cred_model.proofs.Numbers.{current_is}
use Rattle.cred_broadcasts.proofs.Conditions.{dead_waits_nowhere}
use Rattle.cred_tables.proofs.Sealing.{current-held, referred_to}
use Rattle.cred_state.proofs.Seen.{seen_parts, seen_state}
use Rattle.cred_state.proofs.Creating.{spawn_done}
use Rattle.cred_state.proofs.Inits.{kept_child}
use Rattle.cred_state.proofs.Reserved.{kept_spare}
use Rattle.cred_state.proofs.state.State.spawn.Goals as goal

pub spawn_in-requires-clause-alive : goal.spawn_in-requires-clause-alive
spawn_in-requires-clause-alive c =
    let may = rw (← c.self.view_is) at c.in-Ok.ensures in
    ap is_some may.0.lives

pub spawn_in-requires-clause-new : goal.spawn_in-requires-clause-new
spawn_in-requires-clause-new c =
    let may = rw (← c.self.view_is) at c.in-Ok.ensures in
    may.0.new

pub spawn_in-requires-clause-room : goal.spawn_in-requires-clause-room
spawn_in-requires-clause-room c =
    let may = rw (← c.self.view_is) at c.in-Ok.ensures in
    may.0.few

pub spawn_in-requires-clause-nowhere : goal.spawn_in-requires-clause-nowhere
spawn_in-requires-clause-nowhere c =
    let t = c.self.inside in
    let s = seen_state t in
    let may = rw (← c.self.view_is) at c.in-Ok.ensures in
    let sound = rw (← c.self.view_is) at c.requires in
    dead_waits_nowhere s c.args.child sound may.0.new

pub add-requires-clause-referred : goal.add-requires-clause-referred
add-requires-clause-referred c =
    let may = rw (← c.self.view_is) at c.in-Ok.ensures in
    referred_to c.self.inside.slots c.reserve.new.self _ _ c.in_ok-reserve.ensures.ok (current-held c.self.invariant.0 c.args.task _ may.0.has)

pub invariant_of-self : goal.invariant_of-self
invariant_of-self c = rw c.in_err-reserve.ensures.err c.self.invariant

pub invariant_of-self-in_err-spawn_in : goal.invariant_of-self-in_err-spawn_in
invariant_of-self-in_err-spawn_in c =
    rw (c.in_err-spawn_in.ensures.no_tasks, c.in_err-spawn_in.ensures.no_broadcasts)
    (kept_spare c.self.invariant.0 c.in_ok-reserve.ensures.ok, c.self.invariant.1)

pub invariant_of-self-2 : goal.invariant_of-self-2
invariant_of-self-2 c =
    let t = c.self.inside in
    let s = seen_state t in
    let may = rw (← c.self.view_is) at c.in-Ok.ensures in
    let u = current_is s c.args.task _ may.0.has in
    let grown = c.in_ok-spawn_in.ensures.tasks
    ∙ ap (λ (found : Option Task). option_map_or (λ o. t.tasks ++ first_task c.args.child o.process o.current ∷ []) found t.tasks) u.is in (
      kept_child c.self.invariant.0 c.spawn_in.new.tasks c.args.child u.owner.process u.owner grown u.number c.in_ok-reserve.ensures.ok c.add.ensures.held
          c.add.ensures.table
          (current-held c.self.invariant.0 c.args.task _ may.0.has) c.spawn_in.new.broadcasts,
      c.self.invariant.1,
    )

pub returns-clause-ok : goal.returns-clause-ok
returns-clause-ok c =
    let may = rw (← c.self.view_is) at c.in-Ok.ensures in
    let t = c.self.inside in
    rw (← c.self.view_is)
    (spawn_done (seen_parts t) t.master.slots t.slots c.in_ok-reserve.ensures.ok c.add.ensures.table
    c.args.task c.args.child _ may.0 c.in_ok-spawn_in.ensures.tasks c.in_ok-spawn_in.ensures.broadcasts)
