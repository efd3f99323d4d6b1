use Rattle.std.proofs.Common.{nat_eq, sym, ap, ◌∙◌, Option, is_some}
use Rattle.std.specs.Map.{lookup}
use Rattle.cred_model.specs.State.{Task}
use Rattle.cred_procs.specs.Kept.{task_as}
use Rattle.cred_procs.proofs.Entries.{task_in-tasks_of}
use Rattle.cred_procs.proofs.Places.{place_is, is_some-option_map}
use Rattle.cred_procs.proofs.procs.Procs.place_of.Goals as goal

pub returns-clause-place : goal.returns-clause-place
returns-clause-place c =
    rw (← c.self.view_is) (place_is c.args.task c.self.inside.tasks.entries c.get_index_of.result c.get_index_of.ensures.index)

pub returns-clause-alive : goal.returns-clause-alive
returns-clause-alive c =
    let es = c.self.inside.tasks.entries in
    rw (← c.self.view_is)
    (c.get_index_of.ensures.found
    ∙ sym (is_some-option_map (task_as c.args.task) (lookup (nat_eq c.args.task) es))
    ∙ sym (ap (λ (t : Option Task). is_some t) (task_in-tasks_of c.args.task es)))
