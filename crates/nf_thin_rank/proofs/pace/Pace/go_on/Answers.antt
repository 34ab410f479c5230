use Rattle.std.proofs.Common.{length, true, false, subst, sym, ap, ◌∙◌}
use Rattle.nf_thin_rank.proofs.Common.{same_Some, Question, IsQuestion, IsListedBy, Given, StandsWithin, IsBehind, StandsAt, question_in, hops_length}
use Rattle.nf_thin_rank.proofs.Posed.{posed_question}
use Rattle.nf_thin_rank.proofs.pace.Pace.go_on.Goals as goal

pub goes_on_to-requires-clause-question : goal.goes_on_to-requires-clause-question
goes_on_to-requires-clause-question c = subst IsQuestion (sym (c.requires.behind c.in-Some.all c.in-Some.is).through.same) (posed_question c.args.ranking.now c.requires.ranking)

pub goes_on_to-requires-clause-links : goal.goes_on_to-requires-clause-links
goes_on_to-requires-clause-links c =
    ap (λ (q : Question). length q.hops) (c.requires.behind c.in-Some.all c.in-Some.is).through.same
    ∙ (hops_length c.args.ranking.now.net.now.net ∙ sym c.link_count-links.ensures)

pub goes_on_to-requires-clause-behind : goal.goes_on_to-requires-clause-behind
goes_on_to-requires-clause-behind c =
    subst (λ (q : Question). IsBehind q c.in-Some.all c.args.pattern.now) (sym (c.requires.behind c.in-Some.all c.in-Some.is).through.same) (c.requires.behind c.in-Some.all c.in-Some.is)

pub returns-then-goes_on_to-clause-told : goal.returns-then-goes_on_to-clause-told
returns-then-goes_on_to-clause-told c =
    subst (λ (q : Question). StandsWithin q c.args.pattern.now c.args.ranking.now.budget true) (c.requires.behind c.in-Some.all c.in-Some.is).through.same
    (subst (λ b. StandsWithin c.in-Some.all.question c.args.pattern.now c.args.ranking.now.budget b) c.if-goes_on_to.true c.goes_on_to.ensures.within)

pub returns-then-goes_on_to-clause-in_step : goal.returns-then-goes_on_to-clause-in_step
returns-then-goes_on_to-clause-in_step c other all is =
    subst (λ (g : Given). StandsAt (question_in c.args.ranking.now) g c.args.pattern.now) (same_Some c.goes_on_to.new.patterns all is)
    (subst (λ (q : Question). StandsAt q c.goes_on_to.new.patterns c.args.pattern.now) (c.requires.behind c.in-Some.all c.in-Some.is).through.same
    (c.goes_on_to.ensures.stands c.if-goes_on_to.true (subst (λ (q : Question). IsListedBy q c.args.pattern.now)
    (sym (c.requires.behind c.in-Some.all c.in-Some.is).through.same) c.requires.listed)))

pub returns-else-goes_on_to-clause-told : goal.returns-else-goes_on_to-clause-told
returns-else-goes_on_to-clause-told c =
    subst (λ (q : Question). StandsWithin q c.args.pattern.now c.args.ranking.now.budget false) (c.requires.behind c.in-Some.all c.in-Some.is).through.same
    (subst (λ b. StandsWithin c.in-Some.all.question c.args.pattern.now c.args.ranking.now.budget b) c.if-goes_on_to.false c.goes_on_to.ensures.within)
