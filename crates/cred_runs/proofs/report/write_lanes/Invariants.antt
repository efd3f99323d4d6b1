use Rattle.cred_runs.proofs.report.write_lanes.Given as goal

-- the kernel of these parts
abbrev pub ghosts-write_named : goal.ghosts-write_named
ghosts-write_named g a =
    record { script = a.parts.script; roll = a.parts.roll; cells = a.parts.cells; inodes = a.parts.inodes }
