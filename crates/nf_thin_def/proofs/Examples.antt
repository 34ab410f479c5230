-- How examples are written: links, the greatest numerator, and whole numbers by their parts.
use Rattle.std.specs.Prelude.{ℕ, ◌-◌, ◌^◌, Option, pos}
use Rattle.nf_rational.specs.Rational.{ℚ}
use Rattle.nf_frac_def.proofs.Examples.{Parts}
use Rattle.nf_model.specs.Network.{Link}

-- the greatest numerator of fractions of 127 bits
abbrev pub L : ℕ
L = 2 ^ 127 - 1

abbrev pub link : ℕ → ℕ → ℚ → Option ℚ → Link
link tail head transit capacity = record { tail = tail; head = head; transit = transit; capacity = capacity }

-- a whole number
abbrev pub i : ℕ → Parts
i k = (pos k, 1)
