use Rattle.std.proofs.Common.{◌≡◌, ◌<◌, ◌≤◌, map, option_map, length, sym, ap, subst, ◌∙◌, arith}
use Rattle.nf_residual.proofs.Common.{length-map, take_all, err_from_is_err_and, Reach, Known, way_at}
use Rattle.nf_residual.proofs.Twigs.{distances_more, within_known}
use Rattle.nf_residual.proofs.reaches.Reaches.distances.Goals as goal

pub returns-in_err-distances : goal.returns-in_err-distances
returns-in_err-distances c =
    let p = err_from_is_err_and c.from_residual.result c.from_residual.ensures.1 in
    rw p.1 tt

pub loop-node-init : goal.loop-node-init
loop-node-init c = c.in_ok-distances.ensures.items

pub distance_to-requires : goal.distance_to-requires
distance_to-requires c =
    let here : c.loop-node.node < length c.self.inside.places.items = omega (arith, c.len-node-end.ensures, c.self.inside.places.ok.0, c.loop-node-test.true) in
    subst (λ (k : Known). c.loop-node.node < length k) c.self.view_is (within_known c.self.inside.ways c.self.inside.places.items c.loop-node.node here)

pub returns-in_err-push : goal.returns-in_err-push
returns-in_err-push c =
    let p = err_from_is_err_and c.from_residual-in_err-push.result c.from_residual-in_err-push.ensures.1 in
    rw p.1 tt

pub loop-node-preserved : goal.loop-node-preserved
loop-node-preserved c =
    let here : c.loop-node.node < length c.self.inside.places.items = omega (arith, c.len-node-end.ensures, c.self.inside.places.ok.0, c.loop-node-test.true) in
    let inside = subst (λ (k : Known). c.loop-node.node < length k) c.self.view_is (within_known c.self.inside.ways c.self.inside.places.items c.loop-node.node here) in
    distances_more c.args.self.now c.loop-node.distances.items c.push.new.self.items c.loop-node.node c.distance_to.result inside c.loop-node.invariant
    c.distance_to.ensures c.in_ok-push.ensures.items

pub returns : goal.returns
returns c =
    let long : length c.args.self.now ≡ length c.self.inside.places.items = ap (λ (k : Known). length k) (sym c.self.view_is)
    ∙ length-map c.self.inside.places.items (option_map (way_at c.self.inside.ways)) in
    let all : length c.args.self.now ≤ c.loop-node.node = omega (arith, long, c.len-node-end.ensures, c.self.inside.places.ok.0, c.loop-node-test.false) in
    c.loop-node.invariant ∙ ap (λ (k : Known). map (option_map (λ (reach : Reach). reach.distance)) k) (take_all c.loop-node.node c.args.self.now all)
