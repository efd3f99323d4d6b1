use Rattle.std.proofs.Common.{arith}
use Rattle.std.proofs.lemmas.Grind.{common_steps}
use Rattle.cred_grammar.specs.Files.{file_of}
use Rattle.cred_grammar.proofs.file_line.file_of.Goals as goal

pub returns : goal.returns
unfolding file_of
returns c = grind (arith, common_steps)
