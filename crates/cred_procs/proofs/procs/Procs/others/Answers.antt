use Rattle.std.proofs.Common.{◌≡◌, ℕ, ◌∙◌, List, refl, sym, ap, Option, None, Some, filter}
use Rattle.std.specs.Option.{option_map, IfSome}
use Rattle.cred_model.specs.State.{Task}
use Rattle.cred_model.specs.Ends.{is_beside}
use Rattle.cred_model.proofs.Numbers.{found_number}
use Rattle.cred_procs.specs.Kept.{tasks_of}
use Rattle.cred_procs.specs.Tasks.{task_in, those, members}
use Rattle.cred_procs.proofs.Ends.{is_other}
use Rattle.cred_procs.proofs.Many.{those-beside}
use Rattle.cred_procs.proofs.procs.Procs.others.Goals as goal

-- the other threads of a task that is found, by its process
by_process : (task process : ℕ) (ts : List Task) (tasks : List ℕ) (found : Option Task) → task_in ts task ≡ found
    → option_map (λ t. t.process) found ≡ Some process
    → tasks ≡ filter (is_other task) (members ts process) → IfSome found (λ owner. tasks ≡ those (is_beside owner) ts)
by_process task process ts tasks None at is these = cc
by_process task process ts tasks (Some owner) at is these =
    let same : process ≡ owner.process = cc in
    let number = found_number ts task owner at in
    these
    ∙ ap (λ (p : ℕ). filter (is_other task) (members ts p)) same
    ∙ ap (λ (n : ℕ). filter (is_other n) (members ts owner.process)) (sym number)
    ∙ sym (those-beside owner ts)

pub returns-clause-others : goal.returns-clause-others
returns-clause-others c =
    let ts = tasks_of c.self.inside.tasks.entries in
    let process = c.args.process in
    let of = rw (← c.self.view_is) at c.requires in
    rw (← c.self.view_is)
    (by_process c.args.task process ts _ (task_in ts c.args.task) refl of
    (c.from_vec.ensures ∙ c.in_ok-others.ensures
    ∙ ap (filter (is_other c.args.task)) (c.threads.ensures ∙ c.self.invariant.grouped process)))
