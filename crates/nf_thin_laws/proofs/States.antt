-- The slopes of a thin flow allow each state of a solvable listed pattern.
use Rattle.std.proofs.Common.{◌≡◌, ℕ, List, Some, subst}
use Rattle.nf_thin_laws.proofs.Common.{ℚ, State, Tight, Full, Zero, number_at, Link, Network, IsLink, IsNetwork, Sets, IsThinFlow, Pattern, HasState}
use Rattle.nf_thin_laws.proofs.Common.{IsListedIn, Solves, Meets, IsSolvable, AreSets, HoldNoCycle, AllowState}
use Rattle.nf_thin_laws.proofs.Accepted.{IsThinFlow-accepted}
use Rattle.nf_thin_laws.proofs.Slopes.{slopes-unique}

module _ (net : Network) (sets : Sets) (rate : ℚ) (thin_flows thin_slopes : List ℚ) (pattern : Pattern) (good : IsNetwork net) (are : AreSets net sets) (acyclic : HoldNoCycle net sets)
    (thin : IsThinFlow net sets rate thin_flows thin_slopes) (listed : IsListedIn net sets pattern) where
  module _ (flows slopes : List ℚ) (solves : Solves net sets rate pattern flows slopes) (meets : Meets net pattern flows slopes) where
    pub slopes-same : slopes ≡ thin_slopes
    slopes-same = slopes-unique net sets rate good acyclic flows slopes thin_flows thin_slopes
        (IsThinFlow-accepted net sets rate pattern flows slopes good are listed.states listed.entered solves meets) thin

    allowed : (e : ℕ) (link : Link) (state : State) → IsLink net e link → HasState pattern e state → AllowState (number_at slopes link.tail) (number_at slopes link.head) state
    allowed e link Tight p h = solves.links e link (Some Tight) p h
    allowed e link Full p h = meets.links e link (Some Full) p h
    allowed e link Zero p h = meets.links e link (Some Zero) p h

  pub AllowState-thin : IsSolvable net sets rate pattern → (e : ℕ) (link : Link) (state : State) → IsLink net e link → HasState pattern e state
      → AllowState (number_at thin_slopes link.tail) (number_at thin_slopes link.head) state
  AllowState-thin s e link state p h = subst (λ (l : List ℚ). AllowState (number_at l link.tail) (number_at l link.head) state)
      (slopes-same s.flows s.slopes s.solution.solves s.solution.meets) (allowed s.flows s.slopes s.solution.solves s.solution.meets e link state p h)
