use Rattle.cred_words.proofs.cells.MasterSeat.load_after_return.Given as goal

abbrev pub ghosts-load_as : goal.ghosts-load_as
ghosts-load_as a = record { label = 0; slot = 0; put = a.put }
