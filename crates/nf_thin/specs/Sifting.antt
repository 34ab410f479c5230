-- One step of the search by slopes of a thin flow.
use Rattle.std.specs.Prelude.{◌≡◌, ℕ, suc, Option, Result}
use Rattle.nf_rational.specs.Rational.{ℚ}
use Rattle.nf_frac_def.specs.Passing.{Passing}
use Rattle.nf_model.specs.Network.{Network}
use Rattle.nf_model.specs.ThinFlow.{Sets}
use Rattle.nf_model.specs.Pattern.{Pattern}
use Rattle.nf_thin_def.specs.Accepted.{IsAccepted}
use Rattle.nf_thin_laws.specs.ActiveLinks.{HoldNoCycle}
use Rattle.nf_thin_one.specs.declared.thin.ThinFlow.{ThinFlow}
use Rattle.nf_thin.specs.declared.vain.Vain.{Vain}
use Rattle.nf_thin.specs.declared.fault.SearchFault.{SearchFault}
use Rattle.nf_thin.specs.declared.sifting.Guide.{Guide}
use Rattle.nf_thin.specs.Slopes.{AreThinSlopes, AreSlopesOfListed}
use Rattle.nf_thin_balance.specs.Scaled.{IsScaled}
use Rattle.nf_thin.specs.Knowing.{IsKnown}
use Rattle.nf_thin.specs.Searching.{IsFound, Steps}

-- A guide is right: its pattern is accepted, the active links hold no cycle, and every solution of a listed pattern has its slopes. Its
-- ranges hold the scaled supply and the scaled flows that fill the links.
pub record Guides (passes : Passing) (net : Network) (sets : Sets) (rate : ℚ) (guide : Guide) : Type 0 where
  pub known : IsKnown passes net sets rate guide.known
  pub acyclic : HoldNoCycle net sets
  pub thin : AreThinSlopes net sets rate guide.known.slopes.items
  pub slopes : AreSlopesOfListed net sets rate guide.known.slopes.items
  pub scaled : IsScaled net rate guide.known.slopes.items guide.scaled

-- The pattern is counted, and it is not accepted.
pub record IsCounted (passes : Passing) (net : Network) (sets : Sets) (rate : ℚ) (pattern : Pattern) (before after : Vain) : Type 0 where
  pub one_more : after.tried ≡ suc before.tried
  pub not_accepted : IsAccepted passes net sets rate pattern → ⊥

abbrev pub SiftsNext : Passing → Network → Sets → ℚ → ℕ → Pattern → Vain → Vain → Result (Option ThinFlow) SearchFault → Type 0
SiftsNext passes net sets rate budget pattern before after =
    Steps (IsCounted passes net sets rate pattern before after) (IsFound passes net sets rate pattern before after) budget before
