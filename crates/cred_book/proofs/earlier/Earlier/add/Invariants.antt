use Rattle.cred_book.proofs.earlier.Earlier.add.Given as goal

abbrev pub ghosts-add_as : goal.ghosts-add_as
ghosts-add_as a = record { entries = a.part.now }
