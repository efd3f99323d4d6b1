use Rattle.std.proofs.Common.{◌≡◌}
use Rattle.cred_generate.specs.Generated as spec
use Rattle.cred_generate.specs.Generated.{generated}
use Rattle.cred_generate.proofs.generating.text_of.Given as goal

abbrev pub invariant-loop-before : goal.invariant-loop-before
invariant-loop-before l = l.text.items ≡ spec.text_of (generated l.before)
