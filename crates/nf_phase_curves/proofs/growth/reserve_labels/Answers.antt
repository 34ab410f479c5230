use Rattle.std.proofs.Common.{◌<◌, length, get_or, arith}
use Rattle.nf_phase_curves.proofs.Common.{slice_get-get_or}
use Rattle.nf_phase_curves.proofs.Places.{still_grown, none_roomy, one_roomy, all_are_roomy}
use Rattle.nf_phase_curves.proofs.growth.reserve_labels.Goals as goal

pub loop-i-init : goal.loop-i-init
loop-i-init c = none_roomy c.args.curves.now

pub loop-i-preserved : goal.loop-i-preserved
loop-i-preserved c =
    let inside : c.loop-i.i < length c.loop-i.curves = omega arith in
    one_roomy c.args.curves.now c.loop-i.curves c.loop-i.i (get_or c.loop-i.curves c.loop-i.i c.index-curves-i.result) c.reserve.new.self inside
    (slice_get-get_or c.loop-i.curves c.loop-i.i c.index-curves-i.result inside) c.in_ok-reserve.ensures.same c.in_ok-reserve.ensures.room c.loop-i.invariant

pub returns-in_err-reserve-clause-same : goal.returns-in_err-reserve-clause-same
returns-in_err-reserve-clause-same c =
    let inside : c.loop-i.i < length c.loop-i.curves = omega arith in
    still_grown c.args.curves.now c.loop-i.curves c.loop-i.i (get_or c.loop-i.curves c.loop-i.i c.index-curves-i.result) c.reserve.new.self
    (slice_get-get_or c.loop-i.curves c.loop-i.i c.index-curves-i.result inside) c.in_err-reserve.ensures.same c.loop-i.invariant.same

pub returns-clause-room : goal.returns-clause-room
returns-clause-room c = all_are_roomy c.args.curves.now c.loop-i.curves c.loop-i.i (omega arith) c.loop-i.invariant
