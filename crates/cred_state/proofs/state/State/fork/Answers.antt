use Rattle.std.proofs.Common.{[], ◌∷◌, ◌++◌, Option, is_some, ap, ◌∙◌}
use Rattle.std.specs.Option.{option_map_or}
use Rattle.cred_model.specs.State.{Task}
use Rattle.cred_model.specs.Moves.{first_task}
use Rattle.cred_model.proofs.Numbers.{current_is}
use Rattle.cred_tables.proofs.Sealing.{current-held, referred_to}
use Rattle.cred_sound.proofs.Flags.{unflagged}
use Rattle.cred_state.proofs.Seen.{seen_parts, seen_state}
use Rattle.cred_state.proofs.Broadcasts.{kept_beside}
use Rattle.cred_state.proofs.Creating.{fork_done}
use Rattle.cred_state.proofs.Inits.{kept_child}
use Rattle.cred_state.proofs.Reserved.{kept_spare}
use Rattle.cred_state.proofs.state.State.fork.Goals as goal

pub fork_in-requires-clause-alive : goal.fork_in-requires-clause-alive
fork_in-requires-clause-alive c =
    let may = rw (← c.self.view_is) at c.in-Ok.ensures in
    ap is_some may.0.lives

pub fork_in-requires-clause-new : goal.fork_in-requires-clause-new
fork_in-requires-clause-new c =
    let may = rw (← c.self.view_is) at c.in-Ok.ensures in
    may.0.new

pub fork_in-requires-clause-room : goal.fork_in-requires-clause-room
fork_in-requires-clause-room c =
    let may = rw (← c.self.view_is) at c.in-Ok.ensures in
    may.0.few

pub fork_in-requires-clause-unused : goal.fork_in-requires-clause-unused
fork_in-requires-clause-unused c =
    let may = rw (← c.self.view_is) at c.in-Ok.ensures in
    let sound = rw (← c.self.view_is) at c.requires in
    unflagged c.args.process sound.flags may.1

pub add-requires-clause-referred : goal.add-requires-clause-referred
add-requires-clause-referred c =
    let may = rw (← c.self.view_is) at c.in-Ok.ensures in
    referred_to c.self.inside.slots c.reserve.new.self _ _ c.in_ok-reserve.ensures.ok (current-held c.self.invariant.0 c.args.task _ may.0.has)

pub invariant_of-self : goal.invariant_of-self
invariant_of-self c = rw c.in_err-reserve.ensures.err c.self.invariant

pub invariant_of-self-in_err-fork_in : goal.invariant_of-self-in_err-fork_in
invariant_of-self-in_err-fork_in c =
    rw (c.in_err-fork_in.ensures.no_tasks, c.in_err-fork_in.ensures.no_flags)
    (kept_spare c.self.invariant.0 c.in_ok-reserve.ensures.ok, c.self.invariant.1)

pub invariant_of-self-2 : goal.invariant_of-self-2
invariant_of-self-2 c =
    let t = c.self.inside in
    let s = seen_state t in
    let may = rw (← c.self.view_is) at c.in-Ok.ensures in
    let u = current_is s c.args.task _ may.0.has in
    let grown = c.in_ok-fork_in.ensures.tasks
    ∙ ap (λ (found : Option Task). option_map_or (λ o. t.tasks ++ first_task c.args.child c.args.process o.current ∷ []) found t.tasks) u.is in (
      kept_beside
          (kept_child c.self.invariant.0 c.fork_in.new.tasks c.args.child c.args.process u.owner grown
          u.number c.in_ok-reserve.ensures.ok c.add.ensures.held c.add.ensures.table
          (current-held c.self.invariant.0 c.args.task _ may.0.has) t.broadcasts)
          t.broadcasts c.fork_in.new.flags,
      c.self.invariant.1,
    )

pub returns-clause-ok : goal.returns-clause-ok
returns-clause-ok c =
    let may = rw (← c.self.view_is) at c.in-Ok.ensures in
    let t = c.self.inside in
    rw (← c.self.view_is)
    (fork_done (seen_parts t) t.master.slots t.slots c.in_ok-reserve.ensures.ok c.add.ensures.table
    c.args.task c.args.child _ may.0 c.args.process may.1
    c.in_ok-fork_in.ensures.tasks c.in_ok-fork_in.ensures.flags)
