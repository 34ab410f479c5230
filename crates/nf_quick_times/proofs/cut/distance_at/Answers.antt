use Rattle.std.proofs.Common.{Option, None, length, refl, sym, ap, unwrap_or}
use Rattle.nf_quick_times.proofs.Common.{slice_get_read, ℚ}
use Rattle.nf_quick_times.proofs.cut.distance_at.Goals as goal

pub returns : goal.returns
returns c =
    sym (ap (λ (o : Option (Option ℚ)). unwrap_or o None)
    (slice_get_read c.args.distances.now (length c.args.distances.now) c.args.node c.index-distances-node.result refl c.requires c.index-distances-node.is))
