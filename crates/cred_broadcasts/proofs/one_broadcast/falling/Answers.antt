use Rattle.std.proofs.Common.{◌∙◌, ap, reverse}
use Rattle.std.proofs.lemmas.List.{reverse-reverse}
use Rattle.std.proofs.lemmas.List.Sorted.{IsNonDecreasingBy-from_sort}
use Rattle.cred_ids.specs.Ordered.{in_order}
use Rattle.cred_ids.proofs.InOrder.{in_order-is}
use Rattle.cred_broadcasts.proofs.one_broadcast.falling.Goals as goal

pub returns : goal.returns
returns c =
    ap reverse c.reverse.ensures.items
    ∙ reverse-reverse _
    ∙ in_order-is _ _ c.sort_unstable.ensures.permutation (IsNonDecreasingBy-from_sort (λ x. x) _ c.sort_unstable.ensures.sorted)
    ∙ ap in_order c.in_ok-falling.ensures.items
