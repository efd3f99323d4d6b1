use Rattle.cred_fits.proofs.RowLaws.{answers_are_of_their_rows}
use Rattle.cred_fits.proofs.laws.answers_are_of_their_rows.Goals as goal

pub returns : goal.returns
returns c = answers_are_of_their_rows
