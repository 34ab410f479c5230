-- The question and the patterns of a posed ranking.
use Rattle.std.proofs.Common.{sym, ◌∙◌, arith}
use Rattle.nf_thin_rank.proofs.Common.{few_nodes, few_hops, unbounded, Pattern, IsPattern, IsQuestion, IsPatternIn, IsPosed, question_in, hops_length}
use Rattle.nf_thin_rank.proofs.Common.{unbounded_length, below_nodes}
use Rattle.nf_thin_rank.specs.declared.ranking.Ranking.{Ranking}

pub posed_question : (ranking : Ranking) → IsPosed ranking → IsQuestion (question_in ranking)
posed_question ranking posed = record {
  ends = below_nodes ranking.net.now.net posed.named.network;
  active = posed.sets.sets_are.count ∙ sym (hops_length ranking.net.now.net);
  resetting = posed.sets.count ∙ sym (hops_length ranking.net.now.net);
  unbounded = unbounded_length ranking.net.now.net ∙ sym (hops_length ranking.net.now.net);
  base = posed.base;
  fewer = few_hops ranking.net.now posed.named;
  nodes = (let few = few_nodes ranking.net.now posed.named in let same = posed.named.numbered.nodes in omega arith);
}

pub posed_pattern : (ranking : Ranking) → IsPosed ranking → (pattern : Pattern) → IsPattern ranking.sets.now (unbounded ranking.net.now.net) pattern
    → IsPatternIn ranking.net.now.net ranking.sets.now pattern
posed_pattern ranking posed pattern is = record { network = posed.named.network; sets_are = posed.sets.sets_are; bounded = posed.sets.bounded; pattern_is = is }
