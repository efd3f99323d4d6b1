use Rattle.cred_capdata.proofs.RecordLaws.{no_bytes_spell_two}
use Rattle.cred_capdata.proofs.laws.no_bytes_spell_two.Goals as goal

pub returns : goal.returns
returns c = no_bytes_spell_two
