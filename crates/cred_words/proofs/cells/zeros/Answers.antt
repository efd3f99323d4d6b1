use Rattle.std.proofs.Common.{replicate, sym, ap}
use Rattle.cred_words.proofs.Opens.{total_is}
use Rattle.cred_words.proofs.cells.zeros.Goals as goal

pub returns : goal.returns
returns c = ap (λ n. replicate n 0) (sym total_is)
