use Rattle.std.proofs.Common.{◌≡◌, ℕ, ◌∙◌, List, sym, ap, subst, map, nat_eq}
use Rattle.std.specs.List.{IsDistinct}
use Rattle.std.specs.Map.{remove_entry}
use Rattle.std.specs.Option.{option_map}
use Rattle.cred_model.specs.State.{Task}
use Rattle.cred_model.specs.Ends.{is_task, survivors}
use Rattle.cred_procs.specs.declared.thread.Thread.{Thread}
use Rattle.cred_procs.specs.Kept.{task_as, tasks_of, AreGrouped}
use Rattle.cred_procs.proofs.Entries.{numbers-tasks_of, task_in-tasks_of, remove_entry-tasks_of}
use Rattle.cred_procs.proofs.Ends.{kept_survivors}
use Rattle.cred_procs.proofs.procs.Procs.remove.Goals as goal

left : (task : ℕ) (es after : List (ℕ × Thread)) → IsDistinct nat_eq (map (λ t. t.number) (tasks_of es)) → after ≡ remove_entry (nat_eq task) es
    → tasks_of after ≡ survivors (is_task task) (tasks_of es)
left task es after apart is = ap tasks_of is ∙ remove_entry-tasks_of task es (subst (IsDistinct nat_eq) (numbers-tasks_of es) apart)

pub invariant_of-self : goal.invariant_of-self
invariant_of-self c =
    let es = c.self.inside.tasks.entries in
    let after = c.shift_remove.new.self.entries in
    let is : tasks_of after ≡ survivors (is_task c.args.task) (tasks_of es)
    = left c.args.task es after c.self.invariant.sound.apart c.shift_remove.ensures.entries in
    let apart : IsDistinct nat_eq (map (λ t. t.number) (survivors (is_task c.args.task) (tasks_of es)))
    = subst (IsDistinct nat_eq) (sym (numbers-tasks_of after) ∙ ap (λ (ts : List Task). map (λ t. t.number) ts) is) c.shift_remove.ensures.unique in
    let found = task_in-tasks_of c.args.task es ∙ ap (option_map (task_as c.args.task)) (sym c.shift_remove.ensures.value ∙ c.in-Some.is) in
    subst (λ (ts : List Task). AreGrouped ts c.remove.new.self) (sym is)
    (kept_survivors c.args.task (task_as c.args.task c.in-Some.thread) (tasks_of es) c.self.inside.processes c.remove.new.self c.self.invariant apart found
    c.remove.ensures)

pub returns-in-Some : goal.returns-in-Some
returns-in-Some c =
    rw (← c.self.view_is)
    (left c.args.task c.self.inside.tasks.entries c.shift_remove.new.self.entries c.self.invariant.sound.apart c.shift_remove.ensures.entries)

pub returns-in_default : goal.returns-in_default
returns-in_default c =
    rw (← c.self.view_is)
    (left c.args.task c.self.inside.tasks.entries c.shift_remove.new.self.entries c.self.invariant.sound.apart c.shift_remove.ensures.entries)
