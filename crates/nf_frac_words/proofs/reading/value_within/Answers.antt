use Rattle.std.proofs.Common.{ℕ, subst, arith, ◌<◌, ◌≤◌, ◌+◌, ◌-◌, ◌*◌, get_or}
use Rattle.nf_frac_words.proofs.Bounds.{passes_by_tenth, passes_by_digit, value_by_digit, value_at_end, next_is_digit}
use Rattle.nf_frac_words.proofs.Digits.{digit_range}
use Rattle.nf_frac_words.proofs.reading.value_within.Goals as goal

pub returns-then-value-bound : goal.returns-then-value-bound
returns-then-value-bound c = passes_by_tenth c.args.start c.loop-c.value c.args.bound c.loop-c.c-index c.args.digits.now c.loop-c-test.true c.loop-c.invariant.rest c.if-value-bound.true

pub returns-then-value-bound-2 : goal.returns-then-value-bound-2
returns-then-value-bound-2 c =
    let wide : c.args.bound < 10 * c.loop-c.value + (get_or c.args.digits.now c.loop-c.c-index 0 - 48) = omega arith in
    passes_by_digit c.args.start c.loop-c.value c.args.bound c.loop-c.c-index c.args.digits.now c.loop-c-test.true c.loop-c.invariant.rest wide

pub overflow_sub-c : goal.overflow_sub-c
overflow_sub-c c = (digit_range (get_or c.args.digits.now c.loop-c.c-index 0) (next_is_digit c.args.digits.now c.loop-c.c-index c.loop-c-test.true c.loop-c.invariant.digits).0).0

pub loop-c-preserved : goal.loop-c-preserved
loop-c-preserved c = record {
  within = c.if-value-bound-2.false;
  rest = rw c.from.ensures (value_by_digit c.args.start c.loop-c.value c.loop-c.c-index c.args.digits.now c.loop-c-test.true c.loop-c.invariant.rest);
  digits = (next_is_digit c.args.digits.now c.loop-c.c-index c.loop-c-test.true c.loop-c.invariant.digits).1;
}

pub returns : goal.returns
returns c =
    let all = value_at_end c.args.start c.loop-c.value c.loop-c.c-index c.args.digits.now c.loop-c-test.false c.loop-c.invariant.rest in
    (subst (λ (v : ℕ). v ≤ c.args.bound) all c.loop-c.invariant.within, all)
