use Rattle.nf_thin_laws.proofs.Singular.{SolvesHomogeneous-flows, SolvesHomogeneous-slopes, Solves-unique, IsSolution-met}
use Rattle.nf_thin_laws.proofs.no_listed_pattern_is_singular.Goals as goal

pub returns : goal.returns
returns c = record {
  homogeneous = λ net sets pattern flows slopes good are acyclic listed solves.
      (SolvesHomogeneous-flows net sets pattern good are acyclic listed flows slopes solves, SolvesHomogeneous-slopes net sets pattern good are acyclic listed flows slopes solves);
  one = λ net sets rate pattern flows slopes other_flows other_slopes good are acyclic listed p q.
      Solves-unique net sets pattern good are acyclic listed rate flows slopes other_flows other_slopes p q;
  solution = λ net sets rate pattern flows slopes good are acyclic listed p meets. IsSolution-met net sets pattern good are acyclic listed rate flows slopes p meets;
}
