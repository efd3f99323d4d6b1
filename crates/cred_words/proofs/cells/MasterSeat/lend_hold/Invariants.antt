use Rattle.std.proofs.Common.{false}
use Rattle.cred_words.proofs.cells.MasterSeat.lend_hold.Given as goal

abbrev pub ghosts-lend_hold_as : goal.ghosts-lend_hold_as
ghosts-lend_hold_as a = record { label = a.label; slot = a.slot; put = false }
