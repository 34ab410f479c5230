use Rattle.std.proofs.Common.{◌||◌, ◌<◌, not, ap, ◌∙◌, arith}
use Rattle.nf_complete_conditions.proofs.Common.{ℚ, passes_Q, number_at, Link, IsLink-unique, keeps_test}
use Rattle.nf_complete_conditions.proofs.Filling.{keeps_told}
use Rattle.nf_complete_conditions.proofs.slopes.keeps_at.Goals as goal

pub slope_of-requires : goal.slope_of-requires
slope_of-requires c =
    let below : c.link-here.result.tail < c.args.net.now.net.nodes = c.link-here.ensures.named.network.tails c.args.link c.link-here.result c.link-here.ensures.link in
    let is = ap (λ (k : Link). k.tail) c.here.view_is in
    let count = c.requires.slopes in omega arith

pub slope_of-requires-2 : goal.slope_of-requires-2
slope_of-requires-2 c =
    let below : c.link-here.result.head < c.args.net.now.net.nodes = c.link-here.ensures.named.network.heads c.args.link c.link-here.result c.link-here.ensures.link in
    let is = ap (λ (k : Link). k.head) c.here.view_is in
    let count = c.requires.slopes in omega arith

pub returns : goal.returns
returns c = λ here p.
    let same = c.here.view_is ∙ IsLink-unique c.args.net.now.net c.args.link c.link-here.result here c.link-here.ensures.link p in
    keeps_told passes_Q c.args.sets.now c.args.flows.now c.args.slopes.now c.args.link here c.active.result c.resetting.result c.in_ok-full.full c.keeps_if_active-kept.result
    c.active.ensures.flag c.resetting.ensures.flag (c.in_ok-full.ensures here p)
    (c.keeps_if_active-kept.ensures
    ∙ ap (λ (x : ℚ). not c.active.result || keeps_test c.resetting.result c.in_ok-full.full x c.slope_of.result c.slope_of-2.result) c.flow_of.ensures
    ∙ ap (λ (s : ℚ). not c.active.result || keeps_test c.resetting.result c.in_ok-full.full (number_at c.args.flows.now c.args.link) s c.slope_of-2.result)
    (c.slope_of.ensures ∙ ap (λ (k : Link). number_at c.args.slopes.now k.tail) same)
    ∙ ap (λ (t : ℚ). not c.active.result || keeps_test c.resetting.result c.in_ok-full.full (number_at c.args.flows.now c.args.link) (number_at c.args.slopes.now here.tail) t)
    (c.slope_of-2.ensures ∙ ap (λ (k : Link). number_at c.args.slopes.now k.head) same))
