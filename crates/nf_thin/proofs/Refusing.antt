-- Listed patterns that are tried, or rejected without a table, for known slopes of a thin flow.
use Rattle.std.proofs.Common.{ℕ, List, sym, subst, Option, Some, None, Result, Ok, Err}
use Rattle.nf_thin.proofs.Common.{ℚ, Passing, Network, IsNetwork, Sets, Pattern, IsListedIn, IsSolvable, AreSets, HoldNoCycle, AreThinSlopes}
use Rattle.nf_thin.proofs.Common.{AreSlopesOfListed, IsScaled, ThinFlow, Vain, SearchFault, TriesNext, SiftsNext}
use Rattle.nf_thin_laws.proofs.States.{slopes-same}
use Rattle.nf_thin_balance.specs.declared.scaled.Scaled.{Scaled}

-- the slopes of a thin flow are those of each solution of a listed pattern
pub slopes_of_listed : (net : Network) (sets : Sets) (rate : ℚ) (slopes : List ℚ) → IsNetwork net → AreSets net sets → HoldNoCycle net sets → AreThinSlopes net sets rate slopes
    → AreSlopesOfListed net sets rate slopes
slopes_of_listed net sets rate slopes good are acyclic thin pattern flows other listed solves meets =
    slopes-same net sets rate thin.0 slopes pattern good are acyclic thin.1 listed flows other solves meets

module _ (net : Network) (sets : Sets) (rate : ℚ) (pattern : Pattern) (listed : IsListedIn net sets pattern) (solvable : IsSolvable net sets rate pattern) where
  -- The ranges are right at the slopes of its solution.
  pub scaled_at : (here : Scaled) (slopes : List ℚ) → AreSlopesOfListed net sets rate slopes → IsScaled net rate slopes here → IsScaled net rate solvable.slopes here
  scaled_at here slopes only is =
      subst (λ (s : List ℚ). IsScaled net rate s here) (sym (only pattern solvable.flows solvable.slopes listed solvable.solution.solves solvable.solution.meets)) is

-- A tried pattern is counted.
pub tried_counts : (passes : Passing) (net : Network) (sets : Sets) (rate : ℚ) (budget : ℕ) (pattern : Pattern) (before after : Vain)
    (result : Result (Option ThinFlow) SearchFault)
    → TriesNext passes net sets rate budget pattern before after result → SiftsNext passes net sets rate budget pattern before after result
tried_counts passes net sets rate budget pattern before after (Ok None) t = (t.0, record { one_more = t.1.one_more; not_accepted = t.1.not_accepted })
tried_counts passes net sets rate budget pattern before after (Ok (Some thin)) t = t
tried_counts passes net sets rate budget pattern before after (Err (SearchFault.Budget tried)) t = t
tried_counts passes net sets rate budget pattern before after (Err (SearchFault.Passed place at)) t = t
tried_counts passes net sets rate budget pattern before after (Err SearchFault.NoPattern) t = t
tried_counts passes net sets rate budget pattern before after (Err SearchFault.Memory) t = t
