use Rattle.std.proofs.Common.{ap, sym, ◌∙◌, arith}
use Rattle.nf_thin_narrow.proofs.Common.{slice_get_within, Hop, IsHop}
use Rattle.nf_graph.proofs.Walks.{apart_from_test}
use Rattle.nf_pattern.proofs.Entries.{hop_there}
use Rattle.nf_thin_narrow.proofs.sole.is_sole.Goals as goal

pub returns : goal.returns
returns c told =
    let here : IsHop c.args.hops.now c.args.link c.index-hops-index.result =
    hop_there c.args.hops.now c.args.link c.index.result c.index-hops-index.result c.requires.link c.index.ensures c.index-hops-index.is in
    record {
      hop = c.index-hops-index.result;
      is_hop = here;
      elsewhere = λ same. apart_from_test c.here.inside.head c.args.source c.if-eq.ensures (ap (λ (h : Hop). h.head) c.here.view_is ∙ same);
      alone = λ other link p same active. c.loop-e.invariant other link
          (let w = slice_get_within c.args.hops.now other link p in let end = c.loop-e-test.false in omega arith) p (same ∙ sym (ap (λ (h : Hop). h.head) c.here.view_is)) active;
    }
