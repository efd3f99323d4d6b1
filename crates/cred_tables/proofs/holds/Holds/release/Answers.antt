use Rattle.cred_tables.proofs.ByLabel.{release_of}
use Rattle.cred_tables.proofs.holds.Holds.release.Goals as goal

pub returns : goal.returns
returns c =
    rw (← c.self.view_is)
    (release_of c.args.label c.self.inside.numbers c.remove.new.self c.remove.result c.remove.ensures.value c.remove.ensures.left)
