-- Solutions of a pattern with the slopes of the ranges: their scaled flows are possible ones, and conserved at every node.
use Rattle.std.proofs.Common.{◌≡◌, List, sym, subst}
use Rattle.nf_thin_balance.proofs.Common.{ℚ, number_at, Network, IsNetwork, Sets, Pattern, Solves, Meets, Range, scaled, AreFull, CanFlow, IsConserved}
use Rattle.nf_thin_balance.proofs.Common.{scaled_flow}
use Rattle.nf_thin_balance.specs.declared.scaled.Scaled.{Scaled}
use Rattle.nf_thin_balance.specs.Scaled.{IsScaled}
use Rattle.nf_thin_balance.proofs.Conserving.{conserves, scaled_conserves}

module _ (net : Network) (sets : Sets) (rate : ℚ) (pattern : Pattern) (here : Scaled) (full : List Range) (same : full ≡ here.full.items) (slopes flows : List ℚ)
    (is : IsScaled net rate slopes here) (solves : Solves net sets rate pattern flows slopes) (meets : Meets net pattern flows slopes) where
  pub can_flow : CanFlow here.scale net sets rate pattern full flows
  can_flow = record { slopes = slopes; full_are = subst (λ (l : List Range). AreFull here.scale net slopes l) (sym same) is.full; solves = solves; meets = meets }

  pub conserved : IsNetwork net → IsConserved net here.supply (scaled_flow here.scale flows)
  conserved good = (
    scaled here.scale rate,
    is.supply,
    scaled_conserves net here.scale rate (number_at flows) (conserves here.scale net sets rate pattern full flows can_flow good),
  )
