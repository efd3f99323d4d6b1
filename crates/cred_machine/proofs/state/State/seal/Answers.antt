use Rattle.std.proofs.Common.{ℕ, List, ap, ◌∙◌}
use Rattle.cred_model.specs.State.{SealedCred}
use Rattle.cred_machine.proofs.Seen.{seen_state}
use Rattle.cred_machine.proofs.Unchanged.{on_err}
use Rattle.cred_machine.proofs.state.State.seal.Goals as goal

pub returns-in_err-make_room-clause-err : goal.returns-in_err-make_room-clause-err
returns-in_err-make_room-clause-err c =
    let s = seen_state c.self.inside in
    rw (← c.self.view_is)
    (on_err _
    (ap (λ (l : List ℕ). record s { deferred = l; creds = c.make_room.new.creds.list }) c.in_err-make_room.ensures.err
    ∙ ap (λ (l : List SealedCred). record s { creds = l }) c.in_err-make_room.ensures.list))
