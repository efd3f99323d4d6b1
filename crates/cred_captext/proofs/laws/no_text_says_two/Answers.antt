use Rattle.cred_captext.proofs.Read.{no_text_says_two}
use Rattle.cred_captext.proofs.laws.no_text_says_two.Goals as goal

pub returns : goal.returns
returns c = no_text_says_two
