use Rattle.cred_reader.proofs.Lists.{one_list}
use Rattle.cred_reader.proofs.laws.lists_differ.Goals as goal

pub returns : goal.returns
returns c = one_list
