use Rattle.std.specs.Prelude.{IfSome, slice_get}
use Rattle.std.proofs.Common.{subst}
use Rattle.cred_record.specs.Credential.{Credential}
use Rattle.cred_model.specs.State.{Broadcast, Task, task_of}
use Rattle.cred_broadcasts.specs.Broadcasts.{MakesOf}
use Rattle.cred_state.proofs.Acts.{there_once}
use Rattle.cred_state.proofs.Reading.{found-place, found-sealed, is_found}
use Rattle.cred_state.proofs.Seen.{seen_state}
use Rattle.cred_state.proofs.Standing.{current-in_use}
use Rattle.cred_state.proofs.state.State.last_like.Goals as goal

pub has_head-requires-clause-sealed : goal.has_head-requires-clause-sealed
has_head-requires-clause-sealed c =
    let s = seen_state c.self.inside in
    let found = rw (← c.self.view_is) at c.requires.next in
    found-sealed c.self.invariant.0 c.args.next.now (is_found s.creds (λ (t : Task). t.current) (task_of s c.args.next.task) _ found.has)
    (current-in_use s c.args.next.task _ found.has)

pub returns-clause-made : goal.returns-clause-made
returns-clause-made c =
    let t = c.self.inside in
    let s = seen_state t in
    let found = rw (← c.self.view_is) at c.requires.next in
    let place =
    found-place c.self.invariant.0 c.args.next.now (is_found s.creds (λ (t : Task). t.current) (task_of s c.args.next.task) _ found.has)
    (current-in_use s c.args.next.task _ found.has) in
    let last = c.in_ok-last.last.now in
    rw (← c.self.view_is)
    (subst (λ (d : Credential). IfSome (slice_get t.broadcasts c.args.next.broadcast) (λ (b : Broadcast). MakesOf b.call d last.after last.ids_changed))
    (there_once (c.has_head.ensures.value.0 c.if-not-has_head.false) place) c.in_ok-last.ensures)
