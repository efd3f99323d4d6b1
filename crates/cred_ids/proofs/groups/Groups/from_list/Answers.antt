use Rattle.std.proofs.Common.{ap, ◌∙◌, ◌≡◌, arith, length}
use Rattle.std.proofs.lemmas.Grind.{common_steps}
use Rattle.std.proofs.lemmas.List.Sorted.{IsNonDecreasingBy-from_sort, All-permutation}
use Rattle.cred_ids.specs.Id.{IsId}
use Rattle.cred_ids.specs.Ordered.{in_order}
use Rattle.cred_ids.proofs.InOrder.{in_order-is}
use Rattle.cred_ids.proofs.groups.Groups.from_list.Goals as goal

pub invariant_of-result : goal.invariant_of-result
invariant_of-result c =
    let same : c.loop-id.ids.items ≡ c.args.list.now = grind (arith, common_steps) in
    record {
      ordered = IsNonDecreasingBy-from_sort (λ x. x) _ c.in_ok-sort.ensures.sorted;
      each = All-permutation IsId _ _ c.in_ok-sort.ensures.permutation c.loop-id.invariant.each;
      few = omega (arith, c.in_ok-sort.ensures.len, ap length same);
    }

pub returns-clause-sorted : goal.returns-clause-sorted
returns-clause-sorted c =
    let same : c.loop-id.ids.items ≡ c.args.list.now = grind (arith, common_steps) in
    in_order-is _ _ c.in_ok-sort.ensures.permutation (IsNonDecreasingBy-from_sort (λ x. x) _ c.in_ok-sort.ensures.sorted) ∙ ap in_order same
