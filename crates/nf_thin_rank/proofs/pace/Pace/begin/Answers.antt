use Rattle.std.proofs.Common.{ap, subst, ◌∙◌}
use Rattle.nf_thin_rank.proofs.Common.{same_Some, Given, IsBehind, from_start, question_of, question_in}
use Rattle.nf_thin_rank.proofs.pace.Pace.begin.Goals as goal

pub go_on-requires-clause-behind : goal.go_on-requires-clause-behind
go_on-requires-clause-behind c other is =
    subst (λ (g : Given). IsBehind (question_in c.args.ranking.now) g c.args.pattern.now) (same_Some c.in_ok-all.all other is)
    (from_start (question_in c.args.ranking.now) c.in_ok-all.all c.args.pattern.now
    (c.in_ok-all.ensures.asked.asked ∙ ap (question_of c.args.ranking.now.net.now.net c.args.ranking.now.sets.now) c.in_ok-all.ensures.base)
    c.in_ok-all.ensures.asked.start c.in_ok-all.ensures.place)
