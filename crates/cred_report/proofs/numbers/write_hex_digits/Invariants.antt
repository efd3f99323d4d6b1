use Rattle.std.proofs.Common.{◌≡◌, ◌+◌, ◌^◌, ◌<◌, false, length, drop}
use Rattle.std.specs.Fmt.{digits_onto}
use Rattle.cred_report.specs.Numbers.{hexadecimal}
use Rattle.cred_report.proofs.numbers.write_hex_digits.Given as goal

abbrev pub invariant-loop-rest : goal.invariant-loop-rest
invariant-loop-rest l = record {
  size : length l.digits ≡ 16;
  within : l.first < 16;
  fits : l.rest < 16 ^ (l.first + 1);
  written : digits_onto (l.first + 49) 16 false l.rest (drop (l.first + 1) l.digits) ≡ hexadecimal l.number;
}

abbrev pub decreases-loop-rest : goal.decreases-loop-rest
decreases-loop-rest l = l.rest
