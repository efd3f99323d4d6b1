use Rattle.std.proofs.Common.{◌≡◌, ◌+◌, ◌≤◌, drop}
use Rattle.cred_spelling.specs.Lines.{line_ends}
use Rattle.cred_spelling.proofs.lines.few_ends.Given as goal

abbrev pub invariant-loop-byte : goal.invariant-loop-byte
invariant-loop-byte l = record {
  few : l.count ≤ l.byte-index;
  rest : l.count + line_ends (drop l.byte-index l.bytes) ≡ line_ends l.bytes;
}
