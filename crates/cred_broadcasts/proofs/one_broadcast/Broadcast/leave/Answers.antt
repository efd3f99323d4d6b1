use Rattle.std.proofs.Common.{◌∙◌, ℕ, ◌==◌, not, List, reverse, sym, ap, rules}
use Rattle.std.proofs.lemmas.Fn.{filter_same}
use Rattle.cred_model.specs.State.{Broadcast}
use Rattle.cred_broadcasts.proofs.Falling.{filter-reverse}
use Rattle.cred_broadcasts.proofs.one_broadcast.Broadcast.leave.Goals as goal

pub returns : goal.returns
returns c =
    let with_waiting : List ℕ → Broadcast
    = λ w. record {
      number = c.self.inside.number;
      process = c.self.inside.process;
      caller = c.self.inside.caller;
      call = c.self.inside.call;
      waiting = w;
    } in
    let others = λ (n : ℕ). not (n == c.args.task) in
    rw (← c.self.view_is)
    (ap with_waiting
    (ap reverse (filter_same _ others _ (λ x b f' k. search rules) _ _ c.retain.ensures.filtered)
    ∙ sym (filter-reverse others c.self.inside.waiting.items)))
