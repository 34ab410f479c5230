use Rattle.std.proofs.Common.{List, length, ap, ◌∙◌}
use Rattle.nf_thin.proofs.Common.{ℚ, passes_Q, forced_by, posed_question}
use Rattle.nf_thin.proofs.FoundBy.{forcing_by, allowed_by, by_result}
use Rattle.nf_thin.proofs.finding.find_by.Goals as goal

pub forced_by-requires-clause-slopes : goal.forced_by-requires-clause-slopes
forced_by-requires-clause-slopes c = ap (λ (l : List ℚ). length l) c.deref.ensures.value ∙ c.requires.guide.known.solution.solves.slope_count

pub forced_by-requires-clause-base : goal.forced_by-requires-clause-base
forced_by-requires-clause-base c = c.requires.problem.base.count ∙ c.requires.problem.sets.sets_are.count

pub go_narrow-requires-clause-forcing : goal.go_narrow-requires-clause-forcing
go_narrow-requires-clause-forcing c =
    forcing_by c.args.problem.now.ranking.net.now.net c.args.problem.now.ranking.sets.now c.args.problem.now.rate c.args.problem.now.ranking.base.now
    c.in_ok-forced.forced c.args.guide.now.known.slopes.items c.requires.problem.named.network c.requires.problem.sets c.requires.guide.acyclic
    c.requires.guide.thin c.requires.problem.base
    (c.in_ok-forced.ensures ∙ ap (λ (s : List ℚ). forced_by c.args.problem.now.ranking.net.now.net s c.args.problem.now.ranking.base.now) c.deref.ensures.value)

pub returns : goal.returns
returns c =
    by_result passes_Q c.args.problem.now.ranking.net.now.net c.args.problem.now.ranking.sets.now c.args.problem.now.rate
    c.args.problem.now.ranking.base.now c.in_ok-forced.forced c.args.problem.now.ranking.budget
    (forcing_by c.args.problem.now.ranking.net.now.net c.args.problem.now.ranking.sets.now c.args.problem.now.rate c.args.problem.now.ranking.base.now
    c.in_ok-forced.forced c.args.guide.now.known.slopes.items c.requires.problem.named.network c.requires.problem.sets c.requires.guide.acyclic
    c.requires.guide.thin c.requires.problem.base
    (c.in_ok-forced.ensures ∙ ap (λ (s : List ℚ). forced_by c.args.problem.now.ranking.net.now.net s c.args.problem.now.ranking.base.now) c.deref.ensures.value))
    (allowed_by c.args.problem.now.ranking.net.now.net c.args.problem.now.ranking.sets.now c.args.problem.now.rate c.args.problem.now.ranking.base.now
    c.in_ok-forced.forced c.args.guide.now.known.slopes.items c.requires.problem.named.network c.requires.problem.sets c.requires.guide.acyclic
    c.requires.guide.thin c.requires.problem.base
    (c.in_ok-forced.ensures ∙ ap (λ (s : List ℚ). forced_by c.args.problem.now.ranking.net.now.net s c.args.problem.now.ranking.base.now) c.deref.ensures.value))
    c.requires.problem.base (posed_question c.args.problem.now.ranking c.requires.problem) c.go_narrow.result c.go_narrow.ensures
