use Rattle.std.specs.Prelude.{slice_get}
use Rattle.std.specs.Option.{IsSomeAnd}
use Rattle.cred_record.specs.Credential.{Credential}
use Rattle.cred_model.specs.State.{Broadcast}
use Rattle.cred_model.proofs.Places.{if_some}
use Rattle.cred_broadcasts.specs.Broadcasts.{MakesOf}
use Rattle.cred_state.proofs.state.call_events.acts.keep_step.Goals as goal

pub keep_at-requires : goal.keep_at-requires
keep_at-requires c =
    let s = c.requires.sealed in
    let makes : Credential → Credential → Type 0
    = λ head made. IsSomeAnd (slice_get c.args.broadcasts.now c.args.place) (λ (b : Broadcast). MakesOf b.call head made c.args.ids_changed) in
    rw (c.in-Some-head.ensures.head s.0 s.1)
    (if_some (λ head. makes head s.0) c.args.before c.in-Some.before c.in-Some.is (c.requires.made s.0 s.1))
