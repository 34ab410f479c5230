-- The flow found is a thin flow, and its slopes are the only ones.
use Rattle.std.proofs.Common.{◌≡◌, ℕ, suc, List, sym, subst, ◌∙◌, Result, Ok, Err, IfOk}
use Rattle.nf_thin.proofs.Common.{ℚ, Network, IsNetwork, Sets, IsThinFlow, Pattern, IsListedIn, IsSolution, Passing, IsAccepted, Found, IsSearch}
use Rattle.nf_thin.proofs.Common.{IsThinFlow-accepted, ThinFlow, SearchFault, Vain, IsCopy, IsKnown, AreSetsOf, SlopesAreOnly, IsFound, Finds}
use Rattle.nf_thin_laws.proofs.Slopes.{slopes-unique}

module _ (passes : Passing) (net : Network) (sets : Sets) (rate : ℚ) (base : Pattern) (budget : ℕ) (good : IsNetwork net) (sets_are : AreSetsOf net sets) where
  module _ (place : ℕ) (pattern : Pattern) (flows slopes : List ℚ) (s : IsSearch passes net sets rate base budget (Found place pattern flows slopes)) where
    pub found_is_thin : IsThinFlow net sets rate flows slopes
    found_is_thin =
        let first = s.answers in
        let listed : IsListedIn net sets pattern = s.is_listing.listed place pattern first.has_place in
        IsThinFlow-accepted net sets rate pattern flows slopes good sets_are.sets_are listed.states listed.entered first.solution.solves first.solution.meets

    pub found_is_only : SlopesAreOnly net sets rate slopes
    found_is_only no_cycle other_flows other is_thin = slopes-unique net sets rate good no_cycle other_flows other flows slopes is_thin found_is_thin

  -- The place does not matter.
  pub flow_is_thin : (result : Result ThinFlow SearchFault) → Finds (IsSearch passes net sets rate base budget) budget result
      → IfOk result (λ found. IsThinFlow net sets rate found.flows.items found.slopes.items)
  flow_is_thin (Ok found) s = found_is_thin s.0 found.pattern found.flows.items found.slopes.items s.1
  flow_is_thin (Err fault) s = tt

  pub flow_is_only : (result : Result ThinFlow SearchFault) → Finds (IsSearch passes net sets rate base budget) budget result
      → IfOk result (λ found. SlopesAreOnly net sets rate found.slopes.items)
  flow_is_only (Ok found) s = found_is_only s.0 found.pattern found.flows.items found.slopes.items s.1
  flow_is_only (Err fault) s = tt

-- the known pattern, where it is the next one
pub found_known : (passes : Passing) (net : Network) (sets : Sets) (rate : ℚ) (known : ThinFlow) (pattern : Pattern) (before after : Vain) (found : ThinFlow)
    → IsKnown passes net sets rate known → IsCopy known found → known.pattern ≡ pattern → after.tried ≡ suc before.tried
    → IsFound passes net sets rate pattern before after found
found_known passes net sets rate known pattern before after found is at same one_more = record {
  place = one_more;
  pattern_is = at.pattern_is ∙ same;
  accepted = subst (λ (p : Pattern). IsAccepted passes net sets rate p) same is.accepted;
  solution = subst (λ (p : Pattern). IsSolution net sets rate p found.flows.items found.slopes.items) same
      (subst (λ (flows : List ℚ). IsSolution net sets rate known.pattern flows found.slopes.items) (sym at.flows_are)
      (subst (λ (slopes : List ℚ). IsSolution net sets rate known.pattern known.flows.items slopes) (sym at.slopes_are) is.solution));
}
