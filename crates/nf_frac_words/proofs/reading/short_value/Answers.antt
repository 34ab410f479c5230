use Rattle.std.proofs.Common.{arith, length, get_or}
use Rattle.nf_frac_words.proofs.Bounds.{few_so_far, few_at_end, next_is_digit}
use Rattle.nf_frac_words.proofs.Digits.{digit_range}
use Rattle.nf_frac_words.proofs.reading.short_value.Goals as goal

pub overflow_mul-value : goal.overflow_mul-value
overflow_mul-value c =
    let h = few_so_far c.loop-c.value c.loop-c.c-index (length c.args.digits.now) c.loop-c-test.true c.requires.few c.loop-c.invariant.within in
    record { fits = omega (arith, h) }

pub overflow_add-value : goal.overflow_add-value
overflow_add-value c =
    let h = few_so_far c.loop-c.value c.loop-c.c-index (length c.args.digits.now) c.loop-c-test.true c.requires.few c.loop-c.invariant.within in
    let d = digit_range (get_or c.args.digits.now c.loop-c.c-index 0) (next_is_digit c.args.digits.now c.loop-c.c-index c.loop-c-test.true c.loop-c.invariant.digits).0 in
    record { fits = omega (arith, h, d.1, c.from.ensures) }

pub returns-clause-small : goal.returns-clause-small
returns-clause-small c =
    few_at_end c.loop-c.value c.loop-c.c-index (length c.args.digits.now) (omega (arith, c.loop-c.auto.c-index-end)) c.requires.few c.loop-c.invariant.within
