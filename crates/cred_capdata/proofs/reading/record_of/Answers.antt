use Rattle.std.proofs.Common.{◌≡◌, Ok, ap, arith}
use Rattle.std.proofs.lemmas.Grind.{common_steps}
use Rattle.cred_capdata.proofs.RecordLaws.{no_bytes_spell_two}
use Rattle.cred_capdata.proofs.reading.record_of.Goals as goal

pub returns-clause-value : goal.returns-clause-value
returns-clause-value c = grind (arith, common_steps)

pub returns-clause-each_value : goal.returns-clause-each_value
returns-clause-each_value c =
    λ a spells. ap Ok (no_bytes_spell_two c.args.bytes.now _ a (returns-clause-value c) spells)
