use Rattle.std.proofs.Common.{rules}
use Rattle.cred_grammar.specs.Forms.{take_of}
use Rattle.cred_grammar.proofs.forms.take_of.Goals as goal

pub returns : goal.returns
unfolding take_of
returns c = search rules
