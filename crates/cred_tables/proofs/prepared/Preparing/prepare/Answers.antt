use Rattle.cred_tables.proofs.ByLabel.{begun, is_new, on_ok}
use Rattle.cred_tables.proofs.prepared.Preparing.prepare.Goals as goal

pub push-requires : goal.push-requires
push-requires c = is_new c.args.label c.self.inside.entries (rw (← c.self.view_is) at c.requires)

pub returns-clause-ok : goal.returns-clause-ok
returns-clause-ok c =
    rw (← c.self.view_is)
    (on_ok c.push.result (begun c.args.label c.args.preparation c.self.inside.entries c.push.new.self) c.push.ensures.ok)
