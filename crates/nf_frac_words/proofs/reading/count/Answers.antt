use Rattle.std.proofs.Common.{rules, sym, subst, ℕ, ◌≤◌}
use Rattle.nf_frac_words.specs.Digits.{value_of}
use Rattle.nf_frac_words.proofs.Counts.{count_not_plain, count_wide, count_fits}
use Rattle.nf_frac_words.proofs.reading.count.Goals as goal

pub returns-then-not-is_count : goal.returns-then-not-is_count
returns-then-not-is_count c = count_not_plain c.args.word.now (search rules)

pub returns-in_err-value : goal.returns-in_err-value
returns-in_err-value c =
    rw c.from_residual.ensures (count_wide c.args.word.now (subst (λ (most : ℕ). value_of c.args.word.now ≤ most → ⊥) c.from.ensures c.in_err-value.ensures))

pub returns : goal.returns
returns c =
    count_fits c.args.word.now c.in_ok-value.value (search rules)
    (subst (λ (most : ℕ). value_of c.args.word.now ≤ most) c.from.ensures c.in_ok-value.ensures.0) (sym c.in_ok-value.ensures.1)
