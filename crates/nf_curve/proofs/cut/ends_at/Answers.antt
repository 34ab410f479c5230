use Rattle.std.proofs.Common.{◌≡◌, ◌-◌, ◌<◌, length, suc, get_or, refl, sym, ap, subst, ◌∙◌, arith, Ok}
use Rattle.nf_curve.proofs.Common.{slice_get_read, ℚ, 0ℚ, ◌≤ℚ◌, passes_Q, checked_cut, is_same, same_of, last_time}
use Rattle.nf_curve.proofs.Points.{points_there, last_time-last}
use Rattle.nf_curve.proofs.Placing.{last_there}
use Rattle.nf_curve.proofs.Whole.{whole_cut}
use Rattle.nf_curve.proofs.cut.ends_at.Goals as goal

pub overflow_sub-points : goal.overflow_sub-points
overflow_sub-points c = let some = points_there c.args.points.now c.requires.curve in omega arith

pub bounds-points-points : goal.bounds-points-points
bounds-points-points c = let some = points_there c.args.points.now c.requires.curve in omega arith

pub returns-clause-end : goal.returns-clause-end
returns-clause-end c =
    let points = c.args.points.now in
    let p = c.index-points-points.result in
    let a : 0 < length points = points_there points c.requires.curve in
    let b : length points - 1 < length points = last_there _ a in
    let g = slice_get_read points _ (length points - 1) p refl b c.index-points-points.is in
    let last : last_time points ≡ p.0 = last_time-last points (length points - 1) p g (omega (arith, a)) in
    let read : p ≡ get_or points (length points - 1) p = c.index-points-points.is in
    c.is_same.ensures ∙ ap (λ (t : ℚ). is_same t c.args.last) (sym (last ∙ ap (λ (x : ℚ × ℚ). x.0) read))

pub returns-clause-whole : goal.returns-clause-whole
returns-clause-whole c = λ yes.
    let points = c.args.points.now in
    let p = c.index-points-points.result in
    let a : 0 < length points = points_there points c.requires.curve in
    let b : length points - 1 < length points = last_there _ a in
    let g = slice_get_read points _ (length points - 1) p refl b c.index-points-points.is in
    let all : length points ≡ suc (length points - 1) = omega (arith, a) in
    let read : ℚ × ℚ = get_or points (length points - 1) p in
    let same : p.0 ≡ c.args.last = ap (λ (x : ℚ × ℚ). x.0) c.index-points-points.is ∙ same_of read.0 c.args.last (sym c.is_same.ensures ∙ yes) in
    let last : 0ℚ ≤ℚ p.0 = subst (λ (t : ℚ). 0ℚ ≤ℚ t) (sym same) c.requires.last in
    subst (λ (t : ℚ). checked_cut passes_Q points t ≡ Ok points) same (whole_cut passes_Q points (length points - 1) p c.requires.curve all g last)
