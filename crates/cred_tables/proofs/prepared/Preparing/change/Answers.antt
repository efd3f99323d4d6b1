use Rattle.std.proofs.Common.{sym, ap, ◌∙◌}
use Rattle.cred_tables.specs.Prepared.{all_prepared}
use Rattle.cred_tables.proofs.Labels.{with_change-none, with_change-set}
use Rattle.cred_tables.proofs.prepared.Preparing.change.Goals as goal

pub returns-in_default : goal.returns-in_default
returns-in_default c =
    rw (← c.self.view_is) (sym (with_change-none c.args.label c.args.to c.self.inside.entries (sym c.in_default.ensures)))

pub returns : goal.returns
returns c =
    let es = c.self.inside.entries in
    rw (← c.self.view_is)
    (ap all_prepared c.set.ensures.value
    ∙ with_change-set c.args.label c.args.to c.in-Some.preparation.now es c.set.ensures.once (sym c.in-Some.ensures))
