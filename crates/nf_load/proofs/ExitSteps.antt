-- The exits of what enters.
use Rattle.std.proofs.Common.{◌≡◌, ◌≢◌, Option, Some}
use Rattle.nf_load.proofs.Common.{ℚ, 0ℚ, not_both_ℚ, ≤ℚ_of_same, IsPositive}

-- a capacity isn't 0
pub capacity_apart : (capacity : Option ℚ) (rate : ℚ) → IsPositive capacity → capacity ≡ Some rate → rate ≢ 0ℚ
capacity_apart capacity rate h e is_0 = not_both_ℚ 0ℚ rate (h rate e) (≤ℚ_of_same rate 0ℚ is_0)
