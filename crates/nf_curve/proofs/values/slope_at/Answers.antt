use Rattle.std.proofs.Common.{◌<◌, ◌-◌, length, refl, sym, arith, Ok, Err}
use Rattle.nf_curve.proofs.Common.{slice_get_read, err_from_is_err_and, passes_Q, checked_slope}
use Rattle.nf_curve.proofs.Exits.{was_ok}
use Rattle.nf_curve.proofs.Placing.{rise-pairs}
use Rattle.nf_curve.proofs.Sloping.{keeps-found, keeps-kept, slope-read}
use Rattle.nf_curve.proofs.values.slope_at.Goals as goal

pub slope-requires : goal.slope-requires
slope-requires c =
    let a : c.args.place - 1 < length c.args.points.now = omega arith in
    rise-pairs c.args.points.now (c.args.place - 1) c.args.place c.index-points-place.result c.index-points-place-2.result c.requires.rise
    (slice_get_read c.args.points.now _ (c.args.place - 1) c.index-points-place.result refl a c.index-points-place.is)
    (slice_get_read c.args.points.now _ c.args.place c.index-points-place-2.result refl c.requires.within c.index-points-place-2.is) (omega arith)

pub returns-then-known-place-clause-slope : goal.returns-then-known-place-clause-slope
returns-then-known-place-clause-slope c = keeps-kept c.args.part c.args.points.now c.args.place c.args.kept.now c.in-Some.known c.requires.kept c.in-Some.is (omega arith)

pub returns-in_err-slope-clause-slope : goal.returns-in_err-slope-clause-slope
returns-in_err-slope-clause-slope c = λ p q f g.
    let w = err_from_is_err_and c.from_residual.result c.from_residual.ensures.1 in
    let a : c.args.place - 1 < length c.args.points.now = omega arith in
    rw (w.1, w.2) (slope-read c.args.part c.args.points.now c.args.place c.index-points-place.result c.index-points-place-2.result (Err c.in_err-slope.field-0.0)
    (slice_get_read c.args.points.now _ (c.args.place - 1) c.index-points-place.result refl a c.index-points-place.is)
    (slice_get_read c.args.points.now _ c.args.place c.index-points-place-2.result refl c.requires.within c.index-points-place-2.is) c.in_err-slope.ensures p q f g)

pub returns-clause-slope : goal.returns-clause-slope
returns-clause-slope c = λ p q f g.
    let a : c.args.place - 1 < length c.args.points.now = omega arith in
    slope-read c.args.part c.args.points.now c.args.place c.index-points-place.result c.index-points-place-2.result (Ok c.in_ok-slope.slope)
    (slice_get_read c.args.points.now _ (c.args.place - 1) c.index-points-place.result refl a c.index-points-place.is)
    (slice_get_read c.args.points.now _ c.args.place c.index-points-place-2.result refl c.requires.within c.index-points-place-2.is) c.in_ok-slope.ensures p q f g

pub returns-clause-kept : goal.returns-clause-kept
returns-clause-kept c =
    let a : c.args.place - 1 < length c.args.points.now = omega arith in
    keeps-found c.args.points.now c.args.place c.index-points-place.result c.index-points-place-2.result c.in_ok-slope.slope
    (slice_get_read c.args.points.now _ (c.args.place - 1) c.index-points-place.result refl a c.index-points-place.is)
    (slice_get_read c.args.points.now _ c.args.place c.index-points-place-2.result refl c.requires.within c.index-points-place-2.is)
    (was_ok c.args.part (checked_slope passes_Q c.index-points-place.result c.index-points-place-2.result) c.in_ok-slope.slope (sym c.in_ok-slope.ensures))
