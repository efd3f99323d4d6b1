use Rattle.std.proofs.Common.{arith}
use Rattle.std.proofs.lemmas.Grind.{common_steps}
use Rattle.cred_reader.specs.Entry.{read_entry}
use Rattle.cred_reader.proofs.reader.read_entry.Goals as goal

pub returns-in_err-answer-in-len1-up : goal.returns-in_err-answer-in-len1-up
unfolding read_entry
returns-in_err-answer-in-len1-up c = grind (arith, common_steps)

pub returns-in_ok-answer-in-len1-up : goal.returns-in_ok-answer-in-len1-up
unfolding read_entry
returns-in_ok-answer-in-len1-up c = grind (arith, common_steps)
