use Rattle.std.proofs.Common.{◌≡◌, ◌≤◌, ◌++◌, take}
use Rattle.cred_buffer.specs.declared.pen.TheConstants.{PARTS}
use Rattle.cred_report.specs.Numbers.{ids_text}
use Rattle.cred_buffer.proofs.calls.write_list.Given as goal

abbrev pub invariant-loop-id : goal.invariant-loop-id
invariant-loop-id l = record {
  room : PARTS ≤ l.out.room;
  written : l.out.text ≡ l.initial.out.text ++ ids_text (take l.id-index l.ids);
}
