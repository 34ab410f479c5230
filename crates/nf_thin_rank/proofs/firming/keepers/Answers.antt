use Rattle.std.proofs.Common.{ℕ, ◌+◌, List, length, sym, ap, subst, ◌∙◌, arith, rules, Option}
use Rattle.nf_thin_rank.proofs.Common.{Link, hop_of, slice_get-image, AreKeepers, take_front}
use Rattle.nf_thin_rank.proofs.Keepers.{none_kept, one_more}
use Rattle.nf_thin_rank.proofs.firming.keepers.Goals as goal

pub loop-e-init : goal.loop-e-init
loop-e-init c =
    none_kept c.args.ranking.now.net.now.net c.args.ranking.now.sets.now c.args.listed.now c.node_count.result c.in_ok-keepers.keepers.items
    (c.in_ok-keepers.ensures.items_if_clones_equal (λ y e. search rules)) c.node_count.ensures

pub loop-e-preserved : goal.loop-e-preserved
loop-e-preserved c =
    subst (λ (l : List (Option ℕ)). AreKeepers c.args.ranking.now.net.now.net c.args.ranking.now.sets.now c.args.listed.now (c.loop-e.e + 1) l)
    (sym (take_front c.keep-in-loop-e.new.keepers _ c.loop-e.keepers.len
    (let n = c.loop-e.keepers.ok.0 in let same = c.keep-in-loop-e.ensures.count ∙ ap (λ (l : List (Option ℕ)). length l) c.deref_mut.ensures.value in omega arith)))
    (one_more c.args.ranking.now.net.now.net c.args.ranking.now.sets.now c.args.listed.now c.loop-e.e _ c.deref_mut.result.now c.keep-in-loop-e.new.keepers
    c.resetting-resets.result c.leads-leads.result c.state.result
    (hop_of c.link.result) (slice_get-image hop_of c.args.ranking.now.net.now.net.links c.loop-e.e c.link.result c.link.ensures.link) (sym (ap (λ (l : Link). l.head) c.keep.view_is))
    c.resetting-resets.ensures.flag c.state.ensures c.leads-leads.ensures.leads c.leads-leads.ensures.all
    (subst (λ (l : List (Option ℕ)). AreKeepers c.args.ranking.now.net.now.net c.args.ranking.now.sets.now c.args.listed.now c.loop-e.e l)
    (sym c.deref_mut.ensures.value) c.loop-e.invariant)
    c.keep-in-loop-e.ensures.count c.keep-in-loop-e.ensures.keeps c.keep-in-loop-e.ensures.there c.keep-in-loop-e.ensures.kept)

pub returns : goal.returns
returns c =
    subst (λ (n : ℕ). AreKeepers c.args.ranking.now.net.now.net c.args.ranking.now.sets.now c.args.listed.now n c.loop-e.keepers.items)
    (let e = c.loop-e.auto.e-end in let t = c.loop-e-test.false in let k = c.link_count-e-end.ensures in omega arith) c.loop-e.invariant
