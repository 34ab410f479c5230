-- Slacks that change along lines, and the exit slopes of links whose slack leaves 0. Here x is the flow of a link, and l and m are the slopes
-- of its tail and its head.
use Rattle.std.proofs.Common.{◌≡◌, ⊎_elim, true, false, Option, Some, None, sym, subst, ◌∙◌}
use Rattle.nf_unique_laws.proofs.Common.{ℚ, ◌/ℚ◌, ◌≤ℚ◌, ◌<ℚ◌, max_ℚ, ≤ℚ_of_same, not_both_ℚ, max_ℚ_cases, exit_slope}

-- ---- a slack s that changes at c: if it is below 0 at first and at most 0 at y, it is below 0 at d between
-- ---- if the head's label rises faster than the tail's, its slope is that of the filled link
pub reset_least : (capacity : Option ℚ) (x l m : ℚ) → l <ℚ m → m ≤ℚ exit_slope false capacity x l → m ≤ℚ exit_slope true capacity x l
reset_least None x l m h k = k
reset_least (Some c) x l m h k = ⊎_elim
    (λ (w : (max_ℚ l (x /ℚ c) ≡ x /ℚ c) × (l ≤ℚ x /ℚ c)). subst (λ (z : ℚ). m ≤ℚ z) w.0 k)
    (λ (w : (max_ℚ l (x /ℚ c) ≡ l) × (x /ℚ c <ℚ l)). absurd (not_both_ℚ _ _ h (subst (λ (z : ℚ). m ≤ℚ z) w.0 k)))
    (max_ℚ_cases l (x /ℚ c))

pub reset_equal : (capacity : Option ℚ) (x l m : ℚ) → l <ℚ m → exit_slope false capacity x l ≡ m → exit_slope true capacity x l ≡ m
reset_equal None x l m h e = e
reset_equal (Some c) x l m h e = ⊎_elim
    (λ (w : (max_ℚ l (x /ℚ c) ≡ x /ℚ c) × (l ≤ℚ x /ℚ c)). sym w.0 ∙ e)
    (λ (w : (max_ℚ l (x /ℚ c) ≡ l) × (x /ℚ c <ℚ l)). absurd (not_both_ℚ _ _ h (≤ℚ_of_same _ _ (sym e ∙ w.0))))
    (max_ℚ_cases l (x /ℚ c))
