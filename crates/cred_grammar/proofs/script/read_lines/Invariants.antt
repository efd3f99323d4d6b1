use Rattle.std.proofs.Common.{◌≡◌, ◌+◌, length}
use Rattle.cred_spelling.specs.Lines.{lines_of}
use Rattle.cred_grammar.specs.Grammar.{add_lines}
use Rattle.cred_grammar.specs.Reading.{nothing}
use Rattle.cred_grammar.proofs.script.read_lines.Given as goal

abbrev pub invariant-loop-rest : goal.invariant-loop-rest
invariant-loop-rest l = record {
  counted : length l.reading.lines + length (lines_of l.rest) ≡ length (lines_of l.bytes);
  given : add_lines l.reading (lines_of l.rest) ≡ add_lines nothing (lines_of l.bytes);
}

abbrev pub decreases-loop-rest : goal.decreases-loop-rest
decreases-loop-rest l = length l.rest
