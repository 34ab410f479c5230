use Rattle.std.proofs.Common.{◌≡◌, ◌≤◌, List, length, Some, slice_get, refl, sym, ap, ◌∙◌, arith}
use Rattle.nf_check_rules.proofs.Common.{slice_get_read, err_from_is_err_and, ℚ, passes_Q, times_apart}
use Rattle.nf_check_def.specs.declared.Subject.TheVariants.{Link as OfLink}
use Rattle.nf_check_rules.proofs.PointByPoint.{slope_ends, other_ends, rate_fits, rates_end}
use Rattle.nf_check_rules.proofs.rates.check_trace.Goals as goal

pub slope-requires : goal.slope-requires
slope-requires c = times_apart c.args.trace.now.curve.points c.loop-i.i c.point-point.result c.point-next.result c.recall.ensures.curve c.point-point.ensures c.point-next.ensures

pub returns-in_err-slope : goal.returns-in_err-slope
returns-in_err-slope c =
    let p = err_from_is_err_and c.from_residual.result c.from_residual.ensures.1 in
    let here : slice_get c.args.trace.now.rates.items c.loop-i.i ≡ Some c.rate-item.result =
    ap (λ (l : List ℚ). slice_get l c.loop-i.i) (sym c.deref-rate-items.ensures.value)
    ∙ slice_get_read c.deref-rate-items.result.now _ c.loop-i.i c.rate-item.result refl c.loop-i-test.true c.rate-item.is in
    rw (p.1, p.2) (slope_ends passes_Q (OfLink c.args.link) c.args.trace.now.curve.points c.args.trace.now.rates.items c.loop-i.i c.loop-i.invariant
    c.point-point.result c.point-next.result c.rate-item.result c.point-point.ensures c.point-next.ensures here c.in_err-slope.field-0.0
    (sym c.in_err-slope.ensures))

pub returns-in_err-unless : goal.returns-in_err-unless
returns-in_err-unless c =
    let p = err_from_is_err_and c.from_residual-in_err-unless.result c.from_residual-in_err-unless.ensures.1 in
    let here : slice_get c.args.trace.now.rates.items c.loop-i.i ≡ Some c.rate-item.result =
    ap (λ (l : List ℚ). slice_get l c.loop-i.i) (sym c.deref-rate-items.ensures.value)
    ∙ slice_get_read c.deref-rate-items.result.now _ c.loop-i.i c.rate-item.result refl c.loop-i-test.true c.rate-item.is in
    rw (p.1, p.2) (other_ends passes_Q (OfLink c.args.link) c.args.trace.now.curve.points c.args.trace.now.rates.items c.loop-i.i c.loop-i.invariant
    c.point-point.result c.point-next.result c.rate-item.result c.point-point.ensures c.point-next.ensures here c.in_ok-slope.slope
    (sym c.in_ok-slope.ensures) c.in_err-unless.field-0.0
    (rw c.other_rate.ensures at c.in_err-unless.ensures))

pub loop-i-preserved : goal.loop-i-preserved
loop-i-preserved c =
    let here : slice_get c.args.trace.now.rates.items c.loop-i.i ≡ Some c.rate-item.result =
    ap (λ (l : List ℚ). slice_get l c.loop-i.i) (sym c.deref-rate-items.ensures.value)
    ∙ slice_get_read c.deref-rate-items.result.now _ c.loop-i.i c.rate-item.result refl c.loop-i-test.true c.rate-item.is in
    rate_fits passes_Q (OfLink c.args.link) c.args.trace.now.curve.points c.args.trace.now.rates.items c.loop-i.i c.loop-i.invariant c.point-point.result
    c.point-next.result c.rate-item.result c.point-point.ensures c.point-next.ensures here c.in_ok-slope.slope (sym c.in_ok-slope.ensures)
    (rw c.other_rate.ensures at c.in_ok-unless.ensures)

pub returns : goal.returns
returns c =
    let past : length c.args.trace.now.rates.items ≤ c.loop-i.i = omega (arith, ap (λ (l : List ℚ). length l) c.deref-rate-items.ensures.value) in
    rates_end passes_Q (OfLink c.args.link) c.args.trace.now.curve.points c.args.trace.now.rates.items c.loop-i.i c.loop-i.invariant past
