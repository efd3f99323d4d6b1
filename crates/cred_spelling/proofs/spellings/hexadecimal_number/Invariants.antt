use Rattle.std.proofs.Common.{◌≡◌, ◌<◌, ◌^◌, drop}
use Rattle.cred_spelling.specs.Spellings.{hexadecimal_number}
use Rattle.cred_spelling.proofs.Hexadecimals.{hexadecimal_after}
use Rattle.cred_spelling.proofs.spellings.hexadecimal_number.Given as goal

abbrev pub invariant-loop-byte : goal.invariant-loop-byte
invariant-loop-byte l = record {
  small : l.number < 16 ^ l.byte-index;
  rest : hexadecimal_after l.number (drop l.byte-index l.word) ≡ hexadecimal_number l.word;
}
