use Rattle.std.proofs.Common.{ℕ, List, Bool, length, sym, ap, subst, ◌∙◌, arith}
use Rattle.nf_thin_rank.proofs.Common.{Hop, hops, AreSole, hops_length, few_hops}
use Rattle.nf_thin_rank.proofs.Early.{early, from_test}
use Rattle.nf_thin_rank.proofs.standing.is_early.Goals as goal

pub sole_flags-requires-clause-fewer : goal.sole_flags-requires-clause-fewer
sole_flags-requires-clause-fewer c = rw (c.hops.ensures.value) (few_hops c.args.ranking.now.net.now c.requires.ranking.named)

pub ways_before-requires-clause-fewer : goal.ways_before-requires-clause-fewer
ways_before-requires-clause-fewer c =
    let f = few_hops c.args.ranking.now.net.now c.requires.ranking.named in
    let h = hops_length c.args.ranking.now.net.now.net in
    let b = c.requires.ranking.base.count in
    let s = c.requires.ranking.sets.sets_are.count in
    omega arith

pub returns : goal.returns
returns c told listing place is at =
    early c.args.ranking.now.net.now.net c.args.ranking.now.sets.now c.args.ranking.now.base.now c.args.pattern.now c.requires.ranking.named.network
    c.requires.ranking.sets c.requires.ranking.base c.deref.result.now c.deref-2.result.now
    (c.deref.ensures.value ∙ c.in_ok-unbounded.ensures)
    (ap (λ (l : List Bool). length l) c.deref-2.ensures.value ∙ (c.in_ok-sole.ensures.count ∙ ap (λ (l : List Hop). length l) c.hops.ensures.value))
    (subst (λ (l : List Bool). AreSole c.args.ranking.now.net.now.net.source (hops c.args.ranking.now.net.now.net) c.args.ranking.now.sets.now l) (sym c.deref-2.ensures.value)
    (subst (λ (l : List Hop). AreSole c.args.ranking.now.net.now.net.source l c.args.ranking.now.sets.now c.in_ok-sole.sole.items) c.hops.ensures.value
    (subst (λ (n : ℕ). AreSole n c.hops.result.now c.args.ranking.now.sets.now c.in_ok-sole.sole.items) c.source.ensures.value c.in_ok-sole.ensures.sole)))
    c.in_ok-ways.ways c.args.ranking.now.budget c.in_ok-ways.ensures (from_test c.in_ok-ways.ways c.args.ranking.now.budget told)
    (let f = c.requires.ranking.budget in omega arith) listing place is at
