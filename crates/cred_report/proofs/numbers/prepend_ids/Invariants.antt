use Rattle.std.proofs.Common.{◌≡◌, ◌≤◌, ◌++◌}
use Rattle.cred_report.specs.declared.pen.TheConstants.{PARTS}
use Rattle.cred_report.specs.Numbers.{ids_text}
use Rattle.cred_report.proofs.numbers.prepend_ids.Given as goal

abbrev pub invariant-loop-id : goal.invariant-loop-id
invariant-loop-id l = record {
  room : PARTS ≤ l.out.room;
  written : ids_text l.id-iterator.iter.rest.now ++ l.out.text
      ≡ ids_text l.fn.ids ++ l.initial.out.text;
}
