use Rattle.std.proofs.Common.{◌<◌, ◌≤◌, ℕ, length, List, below_more, arith, ⊎_elim, sym, subst}
use Rattle.nf_complete_conditions.proofs.Common.{cases_lt, ℚ, 0ℚ, ◌≤ℚ◌, not_both_ℚ, ≤ℚ_refl, negative_of, not_negative_of, number_at, number_at-beyond}
use Rattle.nf_complete_conditions.proofs.proper.none_negative.Goals as goal

pub returns-then-is_negative_at : goal.returns-then-is_negative_at
returns-then-is_negative_at c =
    λ none. not_both_ℚ _ _ (negative_of (number_at c.args.numbers.now c.loop-i.i) c.is_negative_at.result c.is_negative_at.ensures c.if-is_negative_at.true)
    (none c.loop-i.i)

pub loop-i-preserved : goal.loop-i-preserved
loop-i-preserved c = below_more (λ (k : ℕ). 0ℚ ≤ℚ number_at c.args.numbers.now k) c.loop-i.i c.loop-i.invariant
    (not_negative_of (number_at c.args.numbers.now c.loop-i.i) c.is_negative_at.result c.is_negative_at.ensures c.if-is_negative_at.false)

-- beyond the end there is 0
all_of : (numbers : List ℚ) (n : ℕ) → length numbers ≤ n → ((k : ℕ) → k < n → 0ℚ ≤ℚ number_at numbers k) → (k : ℕ) → 0ℚ ≤ℚ number_at numbers k
all_of numbers n end so k = ⊎_elim
    (λ (h : k < n). so k h)
    (λ (h : n ≤ k). subst (λ (x : ℚ). 0ℚ ≤ℚ x) (sym (number_at-beyond numbers k (omega arith))) (≤ℚ_refl 0ℚ))
    (cases_lt k n)

pub returns : goal.returns
returns c = all_of c.args.numbers.now c.loop-i.i (omega arith) c.loop-i.invariant
