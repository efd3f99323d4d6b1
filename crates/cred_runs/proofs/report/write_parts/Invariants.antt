use Rattle.std.proofs.Common.{◌≡◌}
use Rattle.std.specs.Io.KnownBytes.{Appends}
use Rattle.cred_report.specs.Text.{text}
use Rattle.cred_kernel.specs.Turns.{AreAllTurns, NoWorkIsOut}
use Rattle.cred_runs.proofs.report.write_parts.Given as goal

abbrev pub invariant-parts : goal.invariant-parts
invariant-parts g l = record {
  all : AreAllTurns g.N.Name.script l.turns;
  home : NoWorkIsOut l.turns;
  faults : g.K.Sink.faults l.sink ≡ g.K.Sink.faults l.initial.sink;
  written : Appends (g.K.Sink.written l.initial.sink) (g.K.Sink.written l.sink) (text g.N.Name.script l.rest.earlier);
}
