use Rattle.std.proofs.Common.{◌≡◌, ◌<◌, ◌^◌, drop, true}
use Rattle.nf_frac_words.specs.Digits.{are_digits, value_after, value_of}
use Rattle.nf_frac_words.proofs.reading.short_value.Given as goal

-- the value has at most as many digits as were read; followed by the remaining digits it is the number with all digits
abbrev pub invariant-loop-c : goal.invariant-loop-c
invariant-loop-c l = record {
  within : l.value < 10 ^ l.c-index;
  rest : value_after l.value (drop l.c-index l.digits) ≡ value_of l.digits;
  digits : are_digits (drop l.c-index l.digits) ≡ true;
}
