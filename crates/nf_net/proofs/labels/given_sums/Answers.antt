use Rattle.std.proofs.Common.{◌++◌, List, [], ◌∷◌, map, Option, Some, refl, sym, ◌∙◌, ap}
use Rattle.nf_net.proofs.Common.{map-append, ℚ, filled, filled_all}
use Rattle.nf_net.proofs.labels.given_sums.Goals as goal

pub loop-sum-preserved : goal.loop-sum-preserved
loop-sum-preserved c =
    let sums : List ℚ → List (Option ℚ) = λ (qs : List ℚ). map (λ q. Some q) qs in
    let front : List ℚ = c.loop-sum.numbers.items in
    filled (λ (os : List (Option ℚ)). os) c.args.sums.now c.loop-sum.sum-index c.sum-item.result (sums front) (c.sum-item.result ∷ []) _ _
    (ap sums c.in_ok-push-in-Some.ensures.items ∙ map-append (λ (q : ℚ). Some q) front _ ∙ ap (λ (o : Option ℚ). sums front ++ o ∷ []) (sym c.in-Some.is))
    c.loop-sum-test.true c.sum-item.is refl c.loop-sum.invariant

pub returns : goal.returns
returns c =
    filled_all (λ (os : List (Option ℚ)). os) c.args.sums.now c.loop-sum.sum-index (map (λ q. Some q) c.loop-sum.numbers.items) _ c.loop-sum-test.false refl c.loop-sum.invariant
