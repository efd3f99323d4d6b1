use Rattle.std.proofs.Common.{◌≡◌, ℕ, List, [], if◌then◌else◌, refl, ap}
use Rattle.cred_model.specs.Moves.{at_abort}
use Rattle.cred_machine.proofs.Leads.{process_ended}
use Rattle.cred_machine.proofs.Seen.{seen_state}
use Rattle.cred_machine.proofs.Unchanged.{on_err}
use Rattle.cred_machine.proofs.state.State.end_process.Goals as goal
use Rattle.cred_machine.proofs.state.State.end_process.Goals.{in-Full, in_default}

pub returns-clause-state : goal.returns-clause-state
returns-clause-state c =
    let s = seen_state c.self.inside in
    let swept : at_abort c.args.cause s ≡ (if c.match-matches.matches then record s { deferred = [] } else s)
    = elim c.match-matches.branch [
      | in-Full w ↦ rw (w.in-Full.is, w.matches-is) refl
      | in_default w ↦ rw (w.in_default.is, w.matches-is) refl
    ] in
    rw (← c.self.view_is)
    (process_ended s c.args.process _ _ _ _ _ c.match-matches.matches c.end.ensures c.drop_broadcast.ensures c.remove.ensures c.in_ok-defer_left.ensures.ok
    refl c.args.cause swept)

pub returns-in_err-defer_left-clause-err : goal.returns-in_err-defer_left-clause-err
returns-in_err-defer_left-clause-err c =
    let s = seen_state c.self.inside in
    rw (← c.self.view_is) (on_err _ (ap (λ (l : List ℕ). record s { deferred = l }) c.in_err-defer_left.ensures.err))
