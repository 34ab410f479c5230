use Rattle.std.proofs.Common.{◌≡◌, ◌-◌, ◌≤◌, ◌++◌, ◌∷◌, [], ℕ, List, length, sym, ap, subst, ◌∙◌, arith, Some, is_some, slice_get}
use Rattle.nf_phase_curves.proofs.Common.{ℚ, ◌<ℚ◌, last_time}
use Rattle.nf_phase_curves.proofs.Copying.{later_than_taken}
use Rattle.nf_phase_curves.proofs.LastSlopes.{taken_with_last}
use Rattle.nf_phase_curves.proofs.growing.GrowingCurve.ended.Goals as goal

pub first_points-requires-clause-some : goal.first_points-requires-clause-some
first_points-requires-clause-some c =
    let two : 2 ≤ length c.args.curve.now.points = c.requires (ap is_some c.in-Some.is) in
    omega (arith, c.len.ensures.count)

pub invariant_of-result-2 : goal.invariant_of-result-2
invariant_of-result-2 c =
    let two : 2 ≤ length c.args.curve.now.points = c.requires (ap is_some c.in-Some.is) in
    let at = subst (λ (n : ℕ). slice_get c.args.curve.now.points (n - 1) ≡ Some c.last-time.result) (sym c.len.ensures.count) c.last-time.ensures in
    subst (λ (l : List (ℚ × ℚ)). last_time l <ℚ c.last-time.result.0) (sym c.in_ok-corners.ensures)
    (later_than_taken c.args.curve.now.points (c.len.result - 1) c.last-time.result c.len.ensures.curve (omega (arith, c.len.ensures.count)) at)

pub returns-clause-points : goal.returns-clause-points
returns-clause-points c =
    let at = subst (λ (n : ℕ). slice_get c.args.curve.now.points (n - 1) ≡ Some c.last-time.result) (sym c.len.ensures.count) c.last-time.ensures in
    ap (λ (l : List (ℚ × ℚ)). l ++ (c.last-time.result.0, c.last-time.result.1) ∷ []) c.in_ok-corners.ensures
    ∙ taken_with_last c.args.curve.now.points (c.len.result - 1) c.last-time.result at (omega (arith, c.len.ensures.count, c.len.ensures.some))
