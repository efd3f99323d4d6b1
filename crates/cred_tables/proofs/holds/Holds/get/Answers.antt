use Rattle.std.proofs.Common.{◌∙◌}
use Rattle.cred_tables.proofs.ByLabel.{lookup-holds}
use Rattle.cred_tables.proofs.holds.Holds.get.Goals as goal

pub returns : goal.returns
returns c = rw (← c.self.view_is) (c.copied.ensures ∙ c.get.ensures ∙ lookup-holds c.args.label c.self.inside.numbers)
