use Rattle.std.proofs.Common.{◌≡◌, ◌≤◌, ◌++◌}
use Rattle.hex.specs.Hex.{encode_lower}
use Rattle.cred_report.specs.declared.pen.TheConstants.{PARTS}
use Rattle.cred_report.proofs.file_events.prepend_hex.Given as goal

abbrev pub invariant-loop-byte : goal.invariant-loop-byte
invariant-loop-byte l = record {
  room : PARTS ≤ l.out.room;
  written : encode_lower l.byte-iterator.iter.rest.now ++ l.out.text
      ≡ encode_lower l.fn.bytes ++ l.initial.out.text;
}
