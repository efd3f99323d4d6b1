use Rattle.cred_filecap.proofs.AttributeOf.{attribute_of_is_spelled}
use Rattle.cred_filecap.proofs.laws.attribute_of_is_spelled.Goals as goal

pub returns : goal.returns
returns c = attribute_of_is_spelled
