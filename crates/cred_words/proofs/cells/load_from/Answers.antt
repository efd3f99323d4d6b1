use Rattle.std.proofs.Common.{sym, ◌∙◌, arith}
use Rattle.cred_words.proofs.Seats.{reads_as}
use Rattle.cred_words.proofs.cells.load_from.Goals as goal

pub load-requires : goal.load-requires
load-requires c =
    let words = c.cells.invariant in
    (c.requires.own ∙ sym c.cells.view_is, omega arith, reads_as _ _ _ _ _ c.requires.lent)
