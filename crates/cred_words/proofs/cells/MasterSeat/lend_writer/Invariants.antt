use Rattle.std.proofs.Common.{false}
use Rattle.cred_words.proofs.cells.MasterSeat.lend_writer.Given as goal

abbrev pub ghosts-lend_writer_as : goal.ghosts-lend_writer_as
ghosts-lend_writer_as a = record { label = a.label; slot = a.slot; put = false }
