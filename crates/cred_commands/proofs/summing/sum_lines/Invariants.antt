use Rattle.std.proofs.Common.{◌≡◌, ◌≤◌, ◌-◌, [], length}
use Rattle.cred_commands.proofs.Told.{Told}
use Rattle.cred_commands.proofs.summing.sum_lines.Given as goal

abbrev pub invariant-lines : goal.invariant-lines
invariant-lines l = record {
  within : l.past ≤ length l.script.lines;
  empty : l.entries.items ≡ [];
  words : l.state.words ≡ l.initial.state.words;
  told : Told l.script l.past l.state.state l.summary;
}

abbrev pub decreases-lines : goal.decreases-lines
decreases-lines l = length l.script.lines - l.past
