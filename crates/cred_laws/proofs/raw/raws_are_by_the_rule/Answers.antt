use Rattle.cred_laws.proofs.RawLaws.{raws_are_by_the_rule}
use Rattle.cred_laws.proofs.raw.raws_are_by_the_rule.Goals as goal

pub returns : goal.returns
returns c = raws_are_by_the_rule
