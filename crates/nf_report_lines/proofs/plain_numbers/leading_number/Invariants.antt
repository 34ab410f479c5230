use Rattle.std.proofs.Common.{◌≡◌, take, true}
use Rattle.nf_report_lines.proofs.Common.{are_digits, value_of}
use Rattle.nf_report_lines.proofs.plain_numbers.leading_number.Given as goal

-- the digits so far write the number so far
abbrev pub invariant-loop-place : goal.invariant-loop-place
invariant-loop-place l = record {
  digits : are_digits (take l.place l.bytes) ≡ true;
  number : value_of (take l.place l.bytes) ≡ l.number;
}
