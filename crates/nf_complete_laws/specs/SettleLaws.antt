-- Theorems on settled thin flows.
use Rattle.std.specs.Prelude.{◌≡◌, ℕ, List, Ok, None}
use Rattle.nf_rational.specs.Rational.{ℚ}
use Rattle.nf_rational.specs.Operations.{0ℚ}
use Rattle.nf_rational.specs.Order.{◌≤ℚ◌}
use Rattle.nf_frac_def.specs.Passing.{Passing}
use Rattle.nf_frac_def.specs.Checked.{Checked}
use Rattle.nf_model.specs.Entries.{Has}
use Rattle.nf_model.specs.Network.{Link, Network, IsLink, IsNetwork}
use Rattle.nf_model.specs.ThinFlow.{Sets, IsThinFlow}
use Rattle.nf_model.specs.Pattern.{Pattern, IsListedIn, IsSolution, IsSolvable}
use Rattle.nf_net_def.specs.Report.{Report}
use Rattle.nf_thin_def.specs.Search.{NoPattern, IsSearch}
use Rattle.nf_thin_def.specs.PhaseRun.{Bounds, IsRunReport}
use Rattle.nf_thin_laws.specs.ActiveLinks.{AreSets, HoldNoCycle}
use Rattle.nf_complete_def.specs.Cancelling.{Settles}
use Rattle.nf_complete_def.specs.SettledPattern.{IsSettledPattern}
use Rattle.nf_complete_def.specs.Reached.{StopsForNoThinFlow}

-- the network is well formed, the active links hold no cycle, and no unbounded link is resetting; this holds for the sets of a phase
pub record AreGoodSets (net : Network) (sets : Sets) : Type 0 where
  pub network : IsNetwork net
  pub sets_are : AreSets net sets
  pub acyclic : HoldNoCycle net sets
  pub bounded : (e : ℕ) (link : Link) → IsLink net e link → link.capacity ≡ None → Has sets.resetting e → ⊥

-- A settled thin flow is a thin flow with the same slopes, and its pattern is listed. The flow is the only solution of the pattern's
-- equations, and satisfies its inequalities.
abbrev pub SettledFlowIsSolution : Type 0
SettledFlowIsSolution = (passes : Passing) (net : Network) (sets : Sets) (rate : ℚ) (flows slopes settled : List ℚ) (pattern : Pattern)
    → AreGoodSets net sets → 0ℚ ≤ℚ rate
    → IsThinFlow net sets rate flows slopes → Settles passes net sets slopes flows (Ok settled)
    → IsSettledPattern net sets settled slopes pattern
    → IsThinFlow net sets rate settled slopes × IsListedIn net sets pattern × IsSolution net sets rate pattern settled slopes

-- There is no thin flow if no listed pattern is solvable. In particular there is none if a search returns `NoPattern`.
pub record NoPatternNoThinFlow : Type 0 where
  pub listed : (net : Network) (sets : Sets) (rate : ℚ) (flows slopes : List ℚ) → AreGoodSets net sets → 0ℚ ≤ℚ rate
      → ((pattern : Pattern) → IsListedIn net sets pattern → IsSolvable net sets rate pattern → ⊥)
      → IsThinFlow net sets rate flows slopes → ⊥
  pub search : (passes : Passing) (net : Network) (sets : Sets) (rate : ℚ) (base : Pattern) (budget : ℕ) (flows slopes : List ℚ)
      → AreGoodSets net sets → 0ℚ ≤ℚ rate
      → IsSearch passes net sets rate base budget NoPattern → IsThinFlow net sets rate flows slopes → ⊥

-- flows are settled to one answer, and settled flows have one pattern
pub record SettlingHasOneAnswer : Type 0 where
  pub flows : (passes : Passing) (net : Network) (sets : Sets) (slopes flows : List ℚ) (result other : Checked (List ℚ)) → IsNetwork net
      → Settles passes net sets slopes flows result
      → Settles passes net sets slopes flows other → result ≡ other
  pub pattern : (net : Network) (sets : Sets) (rate : ℚ) (flows slopes : List ℚ) (pattern other : Pattern) → AreGoodSets net sets
      → IsThinFlow net sets rate flows slopes
      → IsSettledPattern net sets flows slopes pattern → IsSettledPattern net sets flows slopes other → pattern ≡ other

-- if a run stopped because no pattern was left, there is no thin flow at the departure reached
abbrev pub StoppedRunHasNoThinFlow : Type 0
StoppedRunHasNoThinFlow = (passes : Passing) (net : Network) (bounds : Bounds) (report : Report) → IsNetwork net
    → IsRunReport passes net bounds report → StopsForNoThinFlow net report.stop report.flow
