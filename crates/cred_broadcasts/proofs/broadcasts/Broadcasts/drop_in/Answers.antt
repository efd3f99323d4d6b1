use Rattle.std.proofs.Common.{◌==◌, not, sym, subst, rules, tests}
use Rattle.std.proofs.lemmas.Fn.{filter_same}
use Rattle.cred_model.specs.State.{Broadcast}
use Rattle.cred_broadcasts.specs.Broadcasts.{AreBroadcasts}
use Rattle.cred_broadcasts.proofs.Kept.{are_dropped}
use Rattle.cred_broadcasts.proofs.broadcasts.Broadcasts.drop_in.Goals as goal

pub invariant_of-self : goal.invariant_of-self
invariant_of-self c =
    subst AreBroadcasts
    (sym (filter_same _ (λ (b : Broadcast). not (b.process == c.args.process)) _ (λ x b f' k. search (rules, tests)) _ _ c.retain.ensures.filtered))
    (are_dropped c.args.process c.self.inside.broadcasts.items c.self.invariant)

pub returns : goal.returns
returns c =
    rw (← c.self.view_is)
    (filter_same _ (λ (b : Broadcast). not (b.process == c.args.process)) _ (λ x b f' k. search (rules, tests)) _ _ c.retain.ensures.filtered)
