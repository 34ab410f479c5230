use Rattle.std.proofs.Common.{◌<◌, length, refl, arith}
use Rattle.nf_phase_length.proofs.Common.{slice_get_read, err_from_is_err_and, passes_Q, Advance, label_after, one_more, one_passes, all_done}
use Rattle.nf_thin_def.specs.Advance.{labels_after}
use Rattle.nf_phase_length.proofs.advancing.labels_after.Goals as goal

pub returns-in_err-next : goal.returns-in_err-next
unfolding labels_after
returns-in_err-next c =
    let p = err_from_is_err_and c.from_residual.result c.from_residual.ensures.1 in
    let inside : c.loop-v.v < length c.args.labels.now = omega arith in
    rw (p.1, p.2) (one_passes (label_after passes_Q c.args.length c.args.slopes.now) c.args.labels.now c.loop-v.moved.items c.loop-v.v c.index-labels-v.result
    (slice_get_read c.args.labels.now _ c.loop-v.v c.index-labels-v.result refl inside c.index-labels-v.is) c.loop-v.invariant Advance c.in_err-next.field-0.0 c.in_err-next.ensures)

pub loop-v-preserved : goal.loop-v-preserved
loop-v-preserved c =
    let inside : c.loop-v.v < length c.args.labels.now = omega arith in
    rw (c.in_ok-push.ensures.items) (one_more (label_after passes_Q c.args.length c.args.slopes.now) c.args.labels.now c.loop-v.moved.items c.loop-v.v c.index-labels-v.result
    (slice_get_read c.args.labels.now _ c.loop-v.v c.index-labels-v.result refl inside c.index-labels-v.is) c.loop-v.invariant Advance c.in_ok-next.next c.in_ok-next.ensures)

pub returns : goal.returns
unfolding labels_after
returns c = all_done (label_after passes_Q c.args.length c.args.slopes.now) c.args.labels.now Advance c.loop-v.moved.items c.loop-v.v c.loop-v-test.false c.loop-v.invariant
