use Rattle.std.proofs.Common.{sym, ◌∙◌}
use Rattle.cred_tables.proofs.ByLabel.{gave_up, not_given}
use Rattle.cred_tables.proofs.prepared.Preparing.give_up.Goals as goal

pub returns-in_err-base : goal.returns-in_err-base
returns-in_err-base c =
    let none = sym c.remove.ensures.value ∙ c.in_err-base.was in
    rw (c.from_residual.ensures, ← c.self.view_is)
    (not_given c.args.label c.self.inside.entries c.remove.new.self none c.remove.ensures.left)

pub returns : goal.returns
returns c =
    let p = c.in_ok-base.field-0 in
    let found = sym c.remove.ensures.value ∙ c.in_ok-base.was in
    rw (← c.self.view_is)
    (record {
      task = p.task;
      changed = p.changed;
      gives = gave_up c.args.label p c.self.inside.entries c.remove.new.self found c.remove.ensures.left;
    })
