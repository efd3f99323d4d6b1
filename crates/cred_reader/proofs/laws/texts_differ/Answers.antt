use Rattle.cred_reader.proofs.EntryBack.{once}
use Rattle.cred_reader.proofs.laws.texts_differ.Goals as goal

pub returns : goal.returns
returns c = once
