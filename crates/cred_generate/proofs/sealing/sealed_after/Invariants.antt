use Rattle.std.proofs.Common.{◌≡◌, ◌+◌, ◌≤◌, fold, take}
use Rattle.cred_generate.specs.Sealed.{count_with}
use Rattle.cred_generate.proofs.sealing.sealed_after.Given as goal

abbrev pub invariant-loop-entry : goal.invariant-loop-entry
invariant-loop-entry l = record {
  few : l.count ≤ l.before + l.entry-index;
  so_far : l.count ≡ fold (λ count entry. count_with count entry.answer) l.before (take l.entry-index l.entries);
}
