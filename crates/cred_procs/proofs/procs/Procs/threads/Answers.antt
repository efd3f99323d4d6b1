use Rattle.std.proofs.Common.{◌∙◌, ap}
use Rattle.std.proofs.lemmas.List.Sorted.{IsNonDecreasingBy-from_sort}
use Rattle.cred_ids.specs.Ordered.{in_order}
use Rattle.cred_ids.proofs.InOrder.{in_order-is}
use Rattle.cred_procs.proofs.procs.Procs.threads.Goals as goal

pub returns : goal.returns
returns c =
    rw (← c.self.view_is, c.from_vec.ensures)
    (in_order-is _ _ c.in_ok-sort.ensures.permutation (IsNonDecreasingBy-from_sort (λ x. x) _ c.in_ok-sort.ensures.sorted)
    ∙ ap in_order (c.in_ok-tasks.ensures.items ∙ c.threads.ensures ∙ c.self.invariant.grouped c.args.process))
