use Rattle.std.proofs.Common.{◌≡◌, ◌≤◌, ◌-◌, length}
use Rattle.cred_commands.proofs.Kept.{Kept}
use Rattle.cred_commands.proofs.ordered.write_lines.Given as goal

abbrev pub invariant-lines : goal.invariant-lines
invariant-lines g l = record {
  within : l.past ≤ length l.script.lines;
  faults : g.K.Sink.faults l.sink ≡ g.K.Sink.faults l.initial.sink;
  words : l.state.words ≡ l.initial.state.words;
  kept : Kept l.script l.past l.state.state l.out (g.K.Sink.written l.initial.sink) (g.K.Sink.written l.sink);
}

abbrev pub decreases-lines : goal.decreases-lines
decreases-lines g l = length l.script.lines - l.past
