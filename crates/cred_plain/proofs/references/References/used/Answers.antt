use Rattle.std.proofs.Common.{◌==◌, ◌∙◌}
use Rattle.cred_plain.specs.References.{is_among}
use Rattle.cred_plain.proofs.Once.{any_or}
use Rattle.cred_plain.proofs.references.References.used.Goals as goal

pub returns : goal.returns
returns c =
    c.is_with_task.ensures
    ∙ any_or (λ t. t.current == c.args.number) (λ t. is_among t.overrides c.args.number) c.args.self.now.tasks.now
