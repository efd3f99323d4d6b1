use Rattle.cred_plain.proofs.Least.{none_below}
use Rattle.cred_plain.proofs.references.References.oldest.Goals as goal

pub returns : goal.returns
returns c = none_below c.args.self.now c.least_in-number.result c.least_in-number.ensures
