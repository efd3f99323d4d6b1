use Rattle.std.proofs.Common.{◌∙◌, ℕ, List, reverse, ap}
use Rattle.std.proofs.lemmas.List.{reverse-reverse}
use Rattle.std.proofs.lemmas.List.Sorted.{IsNonDecreasingBy-from_sort}
use Rattle.cred_model.specs.State.{Broadcast}
use Rattle.cred_plain.proofs.Falling.{sorted_is}
use Rattle.cred_plain.proofs.broadcasts.Broadcast.join.Goals as goal

pub returns-clause-ok : goal.returns-clause-ok
returns-clause-ok c =
    let with_waiting : List ℕ → Broadcast
    = λ w. record {
      number = c.self.inside.number;
      process = c.self.inside.process;
      caller = c.self.inside.caller;
      call = c.self.inside.call;
      waiting = w;
    } in
    rw (← c.self.view_is)
    (ap with_waiting
    (ap reverse c.reverse.ensures.items
    ∙ reverse-reverse _
    ∙ sorted_is c.self.inside.falling.items _ _ c.args.task c.in_ok-push.ensures.items c.sort_unstable.ensures.permutation
    (IsNonDecreasingBy-from_sort (λ x. x) _ c.sort_unstable.ensures.sorted)))
