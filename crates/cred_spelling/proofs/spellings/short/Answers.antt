use Rattle.cred_spelling.proofs.Numerals.{number_of_short}
use Rattle.cred_spelling.proofs.spellings.short.Goals as goal

pub returns : goal.returns
returns c = number_of_short c.args.word.now c.decimal.result c.decimal.ensures.value c.decimal.ensures.small c.requires.some c.requires.low
