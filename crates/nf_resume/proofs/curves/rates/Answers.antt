use Rattle.std.proofs.Common.{◌<◌, ◌≤◌, ◌+◌, length, sym, arith}
use Rattle.nf_resume.proofs.Common.{err_from_is_err_and, passes_Q, entry}
use Rattle.nf_frac_def.specs.declared.Part.TheVariants.{Curve as OfCurve}
use Rattle.nf_curve.proofs.Placing.{times_apart}
use Rattle.nf_resume.proofs.Rates.{rates_first, rate_stops, rate_goes, rates_end}
use Rattle.nf_resume.proofs.curves.rates.Goals as goal

pub slope-requires : goal.slope-requires
slope-requires c = times_apart c.args.curve.now.points c.loop-i.i c.point-point.result c.point-next.result c.len-count.ensures.curve c.point-point.ensures c.point-next.ensures

pub returns-in_err-rate : goal.returns-in_err-rate
returns-in_err-rate c =
    let p = err_from_is_err_and c.from_residual-in_err-rate.result c.from_residual-in_err-rate.ensures.1 in
    rw (p.1, p.2) (rate_stops passes_Q OfCurve c.args.curve.now.points c.loop-i.i c.loop-i.rates.items c.loop-i.invariant c.point-point.result
    c.point-next.result c.point-point.ensures c.point-next.ensures
    c.in_err-rate.field-0.0 (sym c.in_err-rate.ensures))

pub loop-i-preserved : goal.loop-i-preserved
loop-i-preserved c =
    rate_goes passes_Q OfCurve c.args.curve.now.points c.loop-i.i c.loop-i.rates.items c.loop-i.invariant c.point-point.result c.point-next.result
    c.point-point.ensures c.point-next.ensures
    c.in_ok-rate.rate c.push.new.self.items (sym c.in_ok-rate.ensures) c.in_ok-push.ensures.items

pub returns : goal.returns
returns c =
    let inside : c.loop-i.i < length c.args.curve.now.points = omega (arith, c.len-count.ensures.count, c.len-count.ensures.some) in
    let last : length c.args.curve.now.points ≤ c.loop-i.i + 1 = omega (arith, c.len-count.ensures.count, c.len-count.ensures.some) in
    let there = entry c.args.curve.now.points c.loop-i.i inside in
    rates_end passes_Q OfCurve c.args.curve.now.points c.loop-i.i c.loop-i.rates.items c.loop-i.invariant there.0 there.1 last

pub loop-i-init : goal.loop-i-init
loop-i-init c = let none = c.in_ok-rates.ensures {u = tt} in rates_first passes_Q OfCurve c.args.curve.now.points c.in_ok-rates.rates.items none.items
