use Rattle.cred_plain.proofs.Sealed.{none-sealed}
use Rattle.cred_plain.proofs.creds.Creds.new.Goals as goal

pub returns : goal.returns
returns c = rw (c.new-3.ensures.items) (none-sealed _ _ _)
