use Rattle.std.proofs.Common.{List, length, sym, ap, subst, arith}
use Rattle.nf_thin_rank.proofs.Common.{Firm, AreFirmBy, hops_length, few_hops}
use Rattle.nf_thin_rank.proofs.Covers.{first_covers, covers_more, covers_before}
use Rattle.nf_thin_rank.proofs.families.all_ways.Goals as goal

pub firm_ways_before-requires-clause-firm : goal.firm_ways_before-requires-clause-firm
firm_ways_before-requires-clause-firm c =
    let f = ap (λ (l : List Firm). length l) c.deref.ensures.value in
    let n = c.in_ok-firm.ensures.count in let b = c.requires.ranking.base.count in let s = c.requires.ranking.sets.sets_are.count in omega arith

pub firm_ways_before-requires-clause-fewer : goal.firm_ways_before-requires-clause-fewer
firm_ways_before-requires-clause-fewer c =
    let f = few_hops c.args.ranking.now.net.now c.requires.ranking.named in let h = hops_length c.args.ranking.now.net.now.net in
    let b = c.requires.ranking.base.count in let s = c.requires.ranking.sets.sets_are.count in omega arith

pub loop-v-init : goal.loop-v-init
loop-v-init c =
    first_covers c.args.ranking.now.net.now.net c.args.ranking.now.sets.now c.args.ranking.now.base.now c.args.pattern.now c.args.listed.now
    c.requires.ranking.base c.requires.listed c.args.keepers.now c.link_count-count.result c.deref.result.now
    (subst (λ (f : List Firm). AreFirmBy c.args.ranking.now.net.now.net c.args.ranking.now.sets.now c.args.listed.now c.args.keepers.now
    c.link_count-count.result f) (sym c.deref.ensures.value) c.in_ok-firm.ensures)
    c.in_ok-ways.ways c.in_ok-ways.ensures

pub loop-v-preserved : goal.loop-v-preserved
loop-v-preserved c =
    covers_more c.args.ranking.now.net.now.net c.args.ranking.now.sets.now c.args.ranking.now.base.now c.args.pattern.now c.args.listed.now
    c.requires.ranking.base c.requires.listed c.args.keepers.now c.loop-v.v c.loop-v.ways c.loop-v.invariant
    c.in_ok-more.more c.saturating_add-ways.result c.in_ok-more.ensures c.saturating_add-ways.ensures

pub returns : goal.returns
returns c =
    covers_before c.args.ranking.now.net.now.net c.args.ranking.now.sets.now c.args.ranking.now.base.now c.args.pattern.now c.args.listed.now
    c.requires.ranking.base c.requires.listed c.args.keepers.now c.loop-v.v c.loop-v.ways c.loop-v.invariant
