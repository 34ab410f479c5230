-- Which links of a pattern have a state.
use Rattle.std.specs.Prelude.{◌≡◌, ℕ, suc, ◌<◌, ◌≤◌, length, Some, None, slice_get}
use Rattle.nf_model.specs.Pattern.{Pattern}
use Rattle.nf_pattern.specs.declared.stated.StatedLinks.{StatedLinks}

-- No link from m on and before n has a state.
abbrev pub AreIdle : Pattern → ℕ → ℕ → Type 0
AreIdle pattern m n = (e : ℕ) → m ≤ e → e < n → slice_get pattern e ≡ Some None

-- No link from e on and before n has a state, where n is at least e and at most the number of links.
abbrev pub IsNextFrom : Pattern → ℕ → ℕ → Type 0
IsNextFrom pattern e n = (e ≤ n) × (n ≤ length pattern) × AreIdle pattern e n

-- No link after n and up to e has a state, where n is at most e.
abbrev pub IsLastTo : Pattern → ℕ → ℕ → Type 0
IsLastTo pattern e n = (n ≤ e) × AreIdle pattern (suc n) (suc e)

-- `IsNextFrom` and `IsLastTo` hold for every link.
pub record AreStated (pattern : Pattern) (stated : StatedLinks) : Type 0 where
  pub count_next : length stated.next.items ≡ length pattern
  pub count_last : length stated.last.items ≡ length pattern
  pub next : (e n : ℕ) → slice_get stated.next.items e ≡ Some n → IsNextFrom pattern e n
  pub last : (e n : ℕ) → slice_get stated.last.items e ≡ Some n → IsLastTo pattern e n
