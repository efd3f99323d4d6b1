use Rattle.std.proofs.Common.{◌++◌, ◌∙◌, ℕ, List, ap, map}
use Rattle.std.specs.List.{filter}
use Rattle.std.proofs.lemmas.List.Sorted.{IsNonDecreasingBy-from_sort}
use Rattle.cred_ids.specs.Ordered.{in_order}
use Rattle.cred_ids.proofs.InOrder.{in_order-is}
use Rattle.cred_model.specs.State.{Task}
use Rattle.cred_plain.specs.Tasks.{is_other_thread}
use Rattle.cred_plain.proofs.Others.{few_others}
use Rattle.cred_plain.proofs.tasks.Tasks.others.Goals as goal

pub returns-clause-others : goal.returns-clause-others
returns-clause-others c =
    let others : List Task → List ℕ = λ tasks. map (λ (t : Task). t.number) (filter (is_other_thread c.args.process c.args.task) tasks) in
    rw (← c.self.view_is)
    (in_order-is _ _ c.sort_unstable.ensures.permutation (IsNonDecreasingBy-from_sort (λ x. x) _ c.sort_unstable.ensures.sorted)
    ∙ ap in_order (c.in_ok-add_numbers.ensures ∙ ap (λ (ms : List ℕ). ms ++ others c.deref.result.now) c.new-others.ensures.items
    ∙ ap others c.deref.ensures.value))

pub returns-clause-few : goal.returns-clause-few
returns-clause-few c =
    let others : List Task → List ℕ = λ tasks. map (λ (t : Task). t.number) (filter (is_other_thread c.args.process c.args.task) tasks) in
    few_others (is_other_thread c.args.process c.args.task) c.self.inside.list.items _
    (in_order-is _ _ c.sort_unstable.ensures.permutation (IsNonDecreasingBy-from_sort (λ x. x) _ c.sort_unstable.ensures.sorted)
    ∙ ap in_order (c.in_ok-add_numbers.ensures ∙ ap (λ (ms : List ℕ). ms ++ others c.deref.result.now) c.new-others.ensures.items
    ∙ ap others c.deref.ensures.value))
    c.self.invariant
