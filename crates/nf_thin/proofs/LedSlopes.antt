-- The slopes of a pattern that leads to each node.
use Rattle.std.proofs.Common.{List, length, sym, ap, subst, ◌∙◌, Option, Some, None, Ok, IfSome}
use Rattle.nf_thin.proofs.Common.{ℚ, Network, Sets, Pattern, IsSolution, IsPatternIn, IsThinFlow-accepted, Passing, IsAccepted, ThinFlow, TriesOne}
use Rattle.nf_thin.proofs.Common.{AreThinSlopes, IsKnown}
use Rattle.nf_thin_laws.specs.PatternLaws.{EachIsLed}

-- The accepted solution of a pattern that leads to each node is a thin flow.
pub led_slopes : (net : Network) (sets : Sets) (rate : ℚ) (pattern : Pattern) (flows slopes : List ℚ) → IsPatternIn net sets pattern → EachIsLed net sets pattern
    → IsSolution net sets rate pattern flows slopes → AreThinSlopes net sets rate slopes
led_slopes net sets rate pattern flows slopes p led s = (flows, IsThinFlow-accepted net sets rate pattern flows slopes p.network p.sets_are p.pattern_is led s.solves s.meets)

-- ---- a judged pattern
module _ (passes : Passing) (net : Network) (sets : Sets) (rate : ℚ) (pattern : Pattern) (p : IsPatternIn net sets pattern) where
  pub judged_known : (found : Option ThinFlow) → TriesOne passes net sets rate pattern (Ok found) → IfSome found (λ known. IsKnown passes net sets rate known)
  judged_known (Some known) t = record {
    states = ap (λ (l : Pattern). length l) t.0 ∙ (p.pattern_is.count ∙ p.sets_are.count);
    accepted = subst (λ (x : Pattern). IsAccepted passes net sets rate x) (sym t.0) t.1;
    solution = subst (λ (x : Pattern). IsSolution net sets rate x known.flows.items known.slopes.items) (sym t.0) t.2;
  }
  judged_known None t = tt

  pub judged_thin : EachIsLed net sets pattern → (found : Option ThinFlow) → TriesOne passes net sets rate pattern (Ok found)
      → IfSome found (λ known. AreThinSlopes net sets rate known.slopes.items)
  judged_thin led (Some known) t = led_slopes net sets rate pattern known.flows.items known.slopes.items p led t.2
  judged_thin led None t = tt
