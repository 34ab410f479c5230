-- Ranges of the supply and of the flows that fill the links at known slopes.
use Rattle.std.specs.Prelude.{◌≡◌, List, length}
use Rattle.nf_rational.specs.Rational.{ℚ}
use Rattle.nf_model.specs.Network.{Network}
use Rattle.nf_thin_balance.specs.declared.scaled.Scaled.{Scaled}
use Rattle.nf_thin_balance.specs.Ranges.{IsInRange, scaled}
use Rattle.nf_thin_balance.specs.Conserving.{AreFull}

-- There is one range for each link.
abbrev pub HasRanges : Network → Scaled → Type 0
HasRanges net here = length here.full.items ≡ length net.links

-- The ranges hold the scaled supply and the scaled flows that fill the links at these slopes.
pub record IsScaled (net : Network) (rate : ℚ) (slopes : List ℚ) (here : Scaled) : Type 0 where
  pub supply : IsInRange here.supply (scaled here.scale rate)
  pub count : HasRanges net here
  pub full : AreFull here.scale net slopes here.full.items
