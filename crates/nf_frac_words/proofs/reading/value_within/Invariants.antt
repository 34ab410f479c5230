use Rattle.std.proofs.Common.{◌≡◌, ◌≤◌, drop, true}
use Rattle.nf_frac_words.specs.Digits.{are_digits, value_after}
use Rattle.nf_frac_words.proofs.reading.value_within.Given as goal

-- the value so far, followed by the remaining digits, is the number with all digits
abbrev pub invariant-loop-c : goal.invariant-loop-c
invariant-loop-c l = record {
  within : l.value ≤ l.bound;
  rest : value_after l.value (drop l.c-index l.digits) ≡ value_after l.start l.digits;
  digits : are_digits (drop l.c-index l.digits) ≡ true;
}
