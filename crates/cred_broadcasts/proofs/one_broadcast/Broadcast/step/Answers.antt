use Rattle.std.proofs.Common.{◌∙◌, ℕ, List, sym, ap}
use Rattle.cred_model.specs.State.{Broadcast}
use Rattle.cred_broadcasts.proofs.Falling.{least_taken}
use Rattle.cred_broadcasts.proofs.one_broadcast.Broadcast.step.Goals as goal

pub returns-then-eq : goal.returns-then-eq
returns-then-eq c =
    let with_waiting : List ℕ → Broadcast
    = λ w. record {
      number = c.self.inside.number;
      process = c.self.inside.process;
      caller = c.self.inside.caller;
      call = c.self.inside.call;
      waiting = w;
    } in
    let waiting = c.self.inside.waiting in
    rw (← c.self.view_is)
    (ap with_waiting
    (least_taken c.args.task c.least.result c.pop.result waiting.items c.pop.new.self.items waiting.len waiting.ok.0 c.pop.ensures.items
    c.pop.ensures.variant.1 (rw (← c.self.view_is) at c.requires) (rw (← c.self.view_is) at c.least.ensures) (sym c.eq.ensures ∙ c.if-eq.true)))
