use Rattle.std.proofs.Common.{length, refl, sym, ap, subst, ◌∙◌}
use Rattle.nf_thin_rank.proofs.Common.{Question, StandsWithin, from_start, question_of, hops_length}
use Rattle.nf_thin_rank.proofs.standing.is_within.Goals as goal

pub goes_on_to-requires-clause-question : goal.goes_on_to-requires-clause-question
goes_on_to-requires-clause-question c = c.in_ok-patterns.ensures.asked.is_question

pub goes_on_to-requires-clause-links : goal.goes_on_to-requires-clause-links
goes_on_to-requires-clause-links c = ap (λ (q : Question). length q.hops) c.in_ok-patterns.ensures.asked.asked ∙ (hops_length c.args.ranking.now.net.now.net ∙ sym c.link_count.ensures)

pub goes_on_to-requires-clause-behind : goal.goes_on_to-requires-clause-behind
goes_on_to-requires-clause-behind c =
    from_start c.in_ok-patterns.patterns.question c.in_ok-patterns.patterns c.args.pattern.now refl c.in_ok-patterns.ensures.asked.start c.in_ok-patterns.ensures.place

pub returns : goal.returns
returns c =
    subst (λ (q : Question). StandsWithin q c.args.pattern.now c.args.ranking.now.budget c.goes_on_to.result)
    (c.in_ok-patterns.ensures.asked.asked ∙ ap (question_of c.args.ranking.now.net.now.net c.args.ranking.now.sets.now) c.in_ok-patterns.ensures.base) c.goes_on_to.ensures.within
