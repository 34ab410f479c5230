-- The table of a pattern's equations, and the pattern.
use Rattle.std.specs.Prelude.{◌≡◌, ℕ, List, Some, None, Ok}
use Rattle.nf_rational.specs.Rational.{ℚ}
use Rattle.nf_frac_def.specs.Passing.{Passing}
use Rattle.nf_model.specs.Entries.{Has}
use Rattle.nf_model.specs.Network.{Network, IsNetwork, unbounded}
use Rattle.nf_model.specs.ThinFlow.{Sets}
use Rattle.nf_model.specs.Pattern.{Pattern, IsPattern, Solves}
use Rattle.nf_linear_def.specs.Table.{table_list}
use Rattle.nf_thin_def.specs.Equations.{equations, slopes_in, link_flows_in}
use Rattle.nf_thin_laws.specs.ActiveLinks.{AreSets}
use Rattle.nf_linear_laws.specs.Solution.{IsSquare}

-- The pattern is one of these sets of the network, and no unbounded link is resetting.
pub record IsPatternIn (net : Network) (sets : Sets) (pattern : Pattern) : Type 0 where
  pub network : IsNetwork net
  pub sets_are : AreSets net sets
  pub bounded : (e : ℕ) → Has (unbounded net) e → Has sets.resetting e → ⊥
  pub pattern_is : IsPattern sets (unbounded net) pattern

-- These flows and slopes alone meet the equations of the pattern.
pub record SolvesAlone (net : Network) (sets : Sets) (rate : ℚ) (pattern : Pattern) (flows slopes : List ℚ) : Type 0 where
  pub solves : Solves net sets rate pattern flows slopes
  pub only : (other_flows other_slopes : List ℚ) → Solves net sets rate pattern other_flows other_slopes
      → (other_flows ≡ flows) × (other_slopes ≡ slopes)

-- The table of a pattern has as many rows as unknowns. If no operation passes, its elimination gives the flows and slopes that alone solve
-- the pattern. It gives none if there are none or more than one.
pub record EquationsAreThePatterns : Type 0 where
  pub square : (net : Network) (sets : Sets) (rate : ℚ) (pattern : Pattern) → IsNetwork net → AreSets net sets
      → IsSquare (equations net sets rate pattern)
  pub one : (passes : Passing) (net : Network) (sets : Sets) (rate : ℚ) (pattern : Pattern) (values : List ℚ) → IsPatternIn net sets pattern
      → table_list passes (equations net sets rate pattern) ≡ Ok (Some values)
      → SolvesAlone net sets rate pattern (link_flows_in net.nodes sets.active values) (slopes_in net.nodes values)
  pub not_one : (passes : Passing) (net : Network) (sets : Sets) (rate : ℚ) (pattern : Pattern) (flows slopes : List ℚ)
      → IsPatternIn net sets pattern
      → table_list passes (equations net sets rate pattern) ≡ Ok None → SolvesAlone net sets rate pattern flows slopes → ⊥
