use Rattle.std.proofs.Common.{◌≡◌, ◌≤◌, count_by, take}
use Rattle.cred_generate.specs.Summary.{is_refused}
use Rattle.cred_generate.proofs.summing.count_refused.Given as goal

abbrev pub invariant-loop-entry : goal.invariant-loop-entry
invariant-loop-entry l = record {
  few : l.count ≤ l.entry-index;
  so_far : l.count ≡ count_by is_refused (take l.entry-index l.entries);
}
