use Rattle.std.proofs.Common.{List, length, subst, ap, ◌∙◌, Option, IfSome}
use Rattle.nf_thin.proofs.Common.{ℚ, passes_Q, ThinFlow, AreThinSlopes, IsKnown, IsScaled}
use Rattle.nf_thin_guess.specs.declared.guessing.SolvedPattern.{SolvedPattern}
use Rattle.nf_thin_guess.specs.Guessing.{IsSolved}
use Rattle.nf_thin.proofs.Refusing.{slopes_of_listed}
use Rattle.nf_thin.proofs.sifting.guide_of.Goals as goal

pub known_by-requires : goal.known_by-requires
known_by-requires c =
    subst (λ (found : Option SolvedPattern). IfSome found (λ last. IsSolved passes_Q c.args.problem.now.ranking.net.now.net
    c.args.problem.now.ranking.sets.now c.args.problem.now.rate last)) c.in-Some.is c.in_ok-last.ensures

pub scaled_flows-requires-clause-sets : goal.scaled_flows-requires-clause-sets
scaled_flows-requires-clause-sets c = c.requires.problem.sets.sets_are.count

pub scaled_flows-requires-clause-slopes : goal.scaled_flows-requires-clause-slopes
scaled_flows-requires-clause-slopes c =
    let known = subst (λ (found : Option ThinFlow). IfSome found (λ known. IsKnown passes_Q c.args.problem.now.ranking.net.now.net
    c.args.problem.now.ranking.sets.now c.args.problem.now.rate known)) c.in-Some-2.is c.in_ok-known.ensures.known in
    ap (λ (l : List ℚ). length l) c.deref.ensures.value ∙ known.solution.solves.slope_count

pub returns : goal.returns
returns c =
    let known = subst (λ (found : Option ThinFlow). IfSome found (λ known. IsKnown passes_Q c.args.problem.now.ranking.net.now.net
    c.args.problem.now.ranking.sets.now c.args.problem.now.rate known)) c.in-Some-2.is c.in_ok-known.ensures.known in
    let thin = subst (λ (found : Option ThinFlow). IfSome found (λ known. AreThinSlopes c.args.problem.now.ranking.net.now.net
    c.args.problem.now.ranking.sets.now c.args.problem.now.rate known.slopes.items)) c.in-Some-2.is c.in_ok-known.ensures.thin in
    record {
      known = known;
      slopes = slopes_of_listed c.args.problem.now.ranking.net.now.net c.args.problem.now.ranking.sets.now c.args.problem.now.rate
          c.in-Some-2.known.slopes.items c.requires.problem.named.network c.requires.problem.sets.sets_are
          (c.in_ok-hold_no_cycle.ensures c.if-not-branch.false) thin;
      acyclic = c.in_ok-hold_no_cycle.ensures c.if-not-branch.false;
      thin = thin;
      scaled = subst (λ (slopes : List ℚ). IsScaled c.args.problem.now.ranking.net.now.net c.args.problem.now.rate slopes c.in_ok-scaled.scaled)
          c.deref.ensures.value c.in_ok-scaled.ensures;
    }
