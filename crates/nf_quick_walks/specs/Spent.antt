-- Spent links of each node, while flows only decrease.
use Rattle.std.specs.Prelude.{◌≡◌, ℕ, ◌<◌, ◌==◌, ◌&&◌, Bool, true, false, List, Some, slice_get}
use Rattle.std.specs.List.{AllByRecursion}
use Rattle.nf_rational.specs.Rational.{ℚ}
use Rattle.nf_rational.specs.Operations.{0ℚ}
use Rattle.nf_rational.specs.Order.{lt_ℚ}
use Rattle.nf_model.specs.Entries.{number_at}
use Rattle.nf_model.specs.Network.{Link}

-- The link leaves node v and has flow left.
abbrev pub is_out : Link → ℕ → ℚ → Bool
is_out link v flow = (link.tail == v) && lt_ℚ 0ℚ flow

-- None of the first n links leaves node v with flow left.
abbrev pub IsSpent : List Link → List ℚ → ℕ → ℕ → Type 0
IsSpent links flows v n = (k : ℕ) (link : Link) → k < n → slice_get links k ≡ Some link → is_out link v (number_at flows k) ≡ false

-- For each node v, the first `spent`[v] links are spent at v.
abbrev pub AreSpent : List Link → List ℚ → List ℕ → Type 0
AreSpent links flows spent = (v n : ℕ) → slice_get spent v ≡ Some n → IsSpent links flows v n

-- Each of these links has flow left.
abbrev pub HaveFlow : List ℚ → List ℕ → Type 0
HaveFlow flows way = AllByRecursion (λ e. lt_ℚ 0ℚ (number_at flows e) ≡ true) way
