use Rattle.std.proofs.Common.{◌≡◌, ◌++◌, map, take}
use Rattle.cred_model.specs.State.{OpenFile}
use Rattle.cred_machine.proofs.slots.add_openers.Given as goal

abbrev pub invariant-loop-file : goal.invariant-loop-file
invariant-loop-file l = l.numbers.items ≡ l.fn.numbers.items ++ map (λ (x : OpenFile). x.opener) (take l.file-index l.files)
