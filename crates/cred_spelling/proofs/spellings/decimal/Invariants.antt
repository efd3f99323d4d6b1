use Rattle.std.proofs.Common.{◌≡◌, ◌<◌, ◌^◌, drop}
use Rattle.cred_spelling.specs.Spellings.{decimal_of}
use Rattle.cred_spelling.proofs.Numerals.{decimal_after}
use Rattle.cred_spelling.proofs.spellings.decimal.Given as goal

abbrev pub invariant-loop-byte : goal.invariant-loop-byte
invariant-loop-byte l = record {
  small : l.number < 10 ^ l.byte-index;
  rest : decimal_after l.number (drop l.byte-index l.word) ≡ decimal_of l.word;
}
