use Rattle.std.proofs.Common.{◌≡◌, ◌≤◌, ◌-◌, length, take}
use Rattle.std.specs.Io.KnownBytes.{Appends}
use Rattle.cred_report.specs.Text.{text}
use Rattle.cred_output.proofs.report.write_entries.Given as goal

abbrev pub invariant-loop-at : goal.invariant-loop-at
invariant-loop-at g l = record {
  within : l.at ≤ length l.entries;
  faults : g.K.Sink.faults l.sink ≡ g.K.Sink.faults l.initial.sink;
  written : Appends (g.K.Sink.written l.initial.sink) (g.K.Sink.written l.sink) (text l.script (take l.at l.entries));
}

abbrev pub decreases-loop-at : goal.decreases-loop-at
decreases-loop-at g l = length l.entries - l.at
