use Rattle.std.proofs.Common.{◌<◌, length, refl, arith}
use Rattle.std.proofs.lemmas.Option.{slice_get_read}
use Rattle.library_callers.proofs.TwoLinks.{is_sum}
use Rattle.library_callers.proofs.graph.path_time.Goals as goal

pub returns : goal.returns
returns c =
    let within : 2 < length c.in_ok-times.times.items = omega (arith, c.in_ok-times.ensures.sums.count) in
    is_sum c.args.first c.args.second c.in_ok-times.times.items c.index.result.now c.in_ok-times.ensures.sums
    (slice_get_read c.in_ok-times.times.items _ 2 c.index.result.now refl within c.index.ensures)
