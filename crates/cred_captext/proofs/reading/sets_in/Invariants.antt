use Rattle.std.proofs.Common.{◌≡◌, Some, take}
use Rattle.cred_captext.specs.Machine.{first_reader, run}
use Rattle.cred_captext.proofs.reading.sets_in.Given as goal

abbrev pub invariant-loop-place : goal.invariant-loop-place
invariant-loop-place l = run first_reader (take l.place l.text) ≡ Some l.reader
