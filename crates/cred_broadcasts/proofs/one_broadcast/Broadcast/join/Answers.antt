use Rattle.std.proofs.Common.{◌∙◌, ℕ, List, ap, reverse, subst}
use Rattle.std.specs.List.Sorted.{IsPermutation}
use Rattle.std.proofs.lemmas.List.{reverse-reverse}
use Rattle.std.proofs.lemmas.List.Sorted.{IsNonDecreasingBy-from_sort}
use Rattle.cred_ids.proofs.InOrder.{in_order-is}
use Rattle.cred_model.specs.State.{Broadcast}
use Rattle.cred_broadcasts.proofs.Falling.{joined_either}
use Rattle.cred_broadcasts.proofs.one_broadcast.Broadcast.join.Goals as goal

pub returns-clause-ok : goal.returns-clause-ok
returns-clause-ok c =
    let with_waiting : List ℕ → Broadcast
    = λ w. record {
      number = c.self.inside.number;
      process = c.self.inside.process;
      caller = c.self.inside.caller;
      call = c.self.inside.call;
      waiting = w;
    } in
    let before = c.self.inside.waiting.items in
    let sorted = c.sort_unstable.new.self.items in
    rw (← c.self.view_is)
    (ap with_waiting
    (ap reverse c.reverse.ensures.items
    ∙ reverse-reverse sorted
    ∙ in_order-is _ sorted
    (joined_either before c.args.task sorted (subst (λ (xs : List ℕ). IsPermutation xs sorted) c.in_ok-push.ensures.items c.sort_unstable.ensures.permutation))
    (IsNonDecreasingBy-from_sort (λ x. x) _ c.sort_unstable.ensures.sorted)))
