use Rattle.std.proofs.Common.{List, refl}
use Rattle.std.specs.List.{flat_map}
use Rattle.nf_model.specs.Curve.{Point}
use Rattle.nf_net_file.proofs.Filling.{filled, filled_all}
use Rattle.corridor_tolls.specs.Tolls.{toll_at}
use Rattle.corridor_tolls.proofs.tolls.push_points.Goals as goal

pub loop-point-preserved : goal.loop-point-preserved
loop-point-preserved c =
    filled (λ (ps : List Point). flat_map (toll_at c.args.capacity.now c.args.name.now) ps) c.args.points.now c.loop-point.point-index c.point-item.result
    c.loop-point.out.items (toll_at c.args.capacity.now c.args.name.now c.point-item.result) _ _
    c.in_ok-push_point.ensures c.loop-point-test.true c.point-item.is refl c.loop-point.invariant

pub returns : goal.returns
returns c =
    filled_all (λ (ps : List Point). flat_map (toll_at c.args.capacity.now c.args.name.now) ps) c.args.points.now c.loop-point.point-index
    c.loop-point.out.items _ c.loop-point-test.false refl c.loop-point.invariant
