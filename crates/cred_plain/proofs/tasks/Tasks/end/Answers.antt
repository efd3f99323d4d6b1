use Rattle.std.proofs.Common.{not, rules, tests}
use Rattle.std.proofs.lemmas.Fn.{filter_same}
use Rattle.cred_model.specs.State.{Task}
use Rattle.cred_plain.specs.Tasks.{ends_by}
use Rattle.cred_plain.proofs.tasks.Tasks.end.Goals as goal

pub returns : goal.returns
returns c =
    rw (← c.self.view_is)
    (filter_same _ (λ (t : Task). not (ends_by c.args.ending t)) _ (λ x b f' k. search (rules, tests)) _ _ c.retain.ensures.filtered)
