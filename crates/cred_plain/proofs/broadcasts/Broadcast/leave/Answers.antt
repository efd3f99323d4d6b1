use Rattle.std.proofs.Common.{ℕ, ◌==◌, ◌∙◌, not, List, reverse, ap, rules}
use Rattle.std.proofs.lemmas.Fn.{filter_same}
use Rattle.cred_model.specs.State.{Broadcast}
use Rattle.cred_plain.proofs.Falling.{kept_turned}
use Rattle.cred_plain.proofs.broadcasts.Broadcast.leave.Goals as goal

pub returns : goal.returns
returns c =
    let with_waiting : List ℕ → Broadcast
    = λ w. record {
      number = c.self.inside.number;
      process = c.self.inside.process;
      caller = c.self.inside.caller;
      call = c.self.inside.call;
      waiting = w;
    } in
    let stays = λ (n : ℕ). not (n == c.args.task) in
    rw (← c.self.view_is)
    (ap (λ (ns : List ℕ). with_waiting (reverse ns)) (filter_same _ stays _ (λ x b f' k. search rules) _ _ c.retain.ensures.filtered)
    ∙ ap with_waiting (kept_turned stays c.self.inside.falling.items))
