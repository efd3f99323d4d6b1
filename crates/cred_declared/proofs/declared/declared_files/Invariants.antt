use Rattle.std.proofs.Common.{◌≡◌, take}
use Rattle.cred_model.specs.Script.{inodes_of}
use Rattle.cred_declared.proofs.declared.declared_files.Given as goal

abbrev pub invariant-loop-place : goal.invariant-loop-place
invariant-loop-place l = l.files ≡ take l.place (inodes_of l.fn.script)
