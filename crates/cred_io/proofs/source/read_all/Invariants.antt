use Rattle.std.proofs.Common.{◌≡◌, ◌≤◌, ◌+◌, ◌-◌, vec_len}
use Rattle.std.specs.Io.KnownBytes.{Consumes}
use Rattle.cred_io.proofs.source.read_all.Given as goal

abbrev pub invariant-loop-buf : goal.invariant-loop-buf
invariant-loop-buf g l = record {
  within : vec_len l.bytes ≤ l.limit + 1;
  faults : g.S.Source.faults l.source ≡ g.S.Source.faults l.initial.source;
  taken : Consumes (g.S.Source.left l.initial.source) (g.S.Source.left l.source) l.bytes.items;
}

abbrev pub decreases-loop-buf : goal.decreases-loop-buf
decreases-loop-buf g l = l.limit + 1 - vec_len l.bytes
