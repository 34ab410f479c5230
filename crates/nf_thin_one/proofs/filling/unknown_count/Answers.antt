use Rattle.std.proofs.Common.{◌≡◌, ◌<◌, ◌≤◌, length, arith}
use Rattle.nf_thin_one.proofs.Common.{few_links, most_unknowns}
use Rattle.nf_thin_one.proofs.ActivePlaces.{none_before, one_more_before, none_more_before}
use Rattle.nf_thin_one.proofs.Sizes.{few_columns, as_many_hops, counted}
use Rattle.nf_thin_one.proofs.filling.unknown_count.Goals as goal
use Rattle.nf_thin_one.proofs.filling.unknown_count.Goals.{then-active, else-active}

pub loop-e-init : goal.loop-e-init
loop-e-init c = let n = none_before c.args.sets.now.active in let e = c.node_count-count.ensures in omega arith

pub overflow_cast-e : goal.overflow_cast-e
overflow_cast-e c =
    let m : length c.hops-links.result.now ≡ length c.args.net.now.net.links = as_many_hops c.args.net.now c.hops-links.result.now c.hops-links.ensures.value in
    let few = few_links c.args.net.now c.hops-links.ensures.named in
    omega arith

pub overflow_add-count : goal.overflow_add-count
overflow_add-count c =
    let m : length c.hops-links.result.now ≡ length c.args.net.now.net.links = as_many_hops c.args.net.now c.hops-links.result.now c.hops-links.ensures.value in
    let few : c.loop-e.count ≤ most_unknowns = few_columns c.args.net.now c.hops-links.ensures.named c.args.sets.now.active c.loop-e.e c.loop-e.count (omega arith) c.loop-e.invariant in
    omega arith

pub loop-e-preserved : goal.loop-e-preserved
loop-e-preserved c = elim c.if-active.branch [
  | then-active w ↦ let m = one_more_before c.args.sets.now.active c.loop-e.e w.if-active.ensures.flag in let k = w.count-is in let i = c.loop-e.invariant in omega arith
  | else-active w ↦ let m = none_more_before c.args.sets.now.active c.loop-e.e w.if-active.ensures.flag in let k = w.count-is in let i = c.loop-e.invariant in omega arith
]

pub returns-clause-count : goal.returns-clause-count
returns-clause-count c =
    let m : length c.hops-links.result.now ≡ length c.args.net.now.net.links = as_many_hops c.args.net.now c.hops-links.result.now c.hops-links.ensures.value in
    counted c.args.net.now.net c.args.sets.now c.loop-e.e c.loop-e.count (omega arith) c.loop-e.invariant

pub returns-clause-few : goal.returns-clause-few
returns-clause-few c =
    let m : length c.hops-links.result.now ≡ length c.args.net.now.net.links = as_many_hops c.args.net.now c.hops-links.result.now c.hops-links.ensures.value in
    few_columns c.args.net.now c.hops-links.ensures.named c.args.sets.now.active c.loop-e.e c.loop-e.count (omega arith) c.loop-e.invariant

pub active-requires : goal.active-requires
active-requires c =
    let m : length c.hops-links.result.now ≡ length c.args.net.now.net.links = as_many_hops c.args.net.now c.hops-links.result.now c.hops-links.ensures.value in
    let r : length c.args.sets.now.active ≡ length c.args.net.now.net.links = c.requires in
    let t : c.loop-e.e < length c.hops-links.result.now = c.loop-e-test.true in
    omega (arith, m, r, t)
