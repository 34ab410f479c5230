-- Parsed and printed fractions.
use Rattle.std.proofs.Common.{◌≡◌, ℕ, ◌<◌, ◌≤◌, List, ℤ, nat_abs, sym, ◌∙◌, ap, subst, arith, Ok}
use Rattle.nf_frac.proofs.Common.{ℚ, ratio, greatest, IsWithin}
use mathlib.Core.Path.{ap₂}
use Rattle.nf_frac_words.specs.Numbers.{number_of, decimal_of}
use Rattle.nf_frac_words.specs.Printed.{printed, printed_parts}
use Rattle.nf_frac_words.proofs.ReadBack.{number_read, number_read_as_decimal}
use Rattle.nf_frac.proofs.Bits.{bits_of, plain}
use Rattle.nf_frac.proofs.Form.{ratio_within}

-- a ratio of parts within the limit is within the limit
pub read_within : (limit : ℕ) (n : ℤ) (d : ℕ) (q : ℚ) → limit ≤ greatest → nat_abs n ≤ limit → d ≤ limit → 0 < d → q ≡ ratio (bits_of n) d → IsWithin limit q
read_within limit n d q narrow h k some e =
    subst (λ (z : ℚ). IsWithin limit z) (sym (e ∙ ap (λ (m : ℤ). ratio m d) (plain n (omega arith)))) (ratio_within limit n d some h k)

-- the computed parts of q
module _ (q : ℚ) (n : ℤ) (d : ℕ) (num : n ≡ q.num) (small : nat_abs n ≤ greatest) (den : d ≡ q.den) (text : List ℕ) (wrote : text ≡ printed_parts (bits_of n) d) where
  pub written : text ≡ printed q
  unfolding printed
  written = wrote ∙ ap₂ printed_parts (plain n small ∙ num) den

  module _ (limit : ℕ) (w : IsWithin limit q) where
    pub written_read : number_of limit text ≡ Ok q
    written_read = ap (number_of limit) written ∙ number_read limit q w.small w.small_den

    pub written_read_as_decimal : decimal_of limit text ≡ Ok q
    written_read_as_decimal = ap (decimal_of limit) written ∙ number_read_as_decimal limit q w.small w.small_den
