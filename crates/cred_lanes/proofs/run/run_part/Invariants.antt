use Rattle.cred_lanes.proofs.run.run_part.Given as goal

-- the part that begins here
abbrev pub ghosts-run_named : goal.ghosts-run_named
ghosts-run_named g a = record { earlier = a.rest.earlier }
