use Rattle.std.proofs.Common.{◌≡◌, drop}
use Rattle.cred_spelling.specs.Table as spec
use Rattle.cred_spelling.proofs.table.named.Given as goal

abbrev pub invariant-loop-name : goal.invariant-loop-name
invariant-loop-name g l =
    spec.named (spec.rows (drop l.name-index l.table)) l.word ≡ spec.named (spec.rows l.table) l.word
