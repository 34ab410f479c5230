use Rattle.std.proofs.Common.{ℕ, suc, List, [], ◌∷◌, ◌++◌, drop, Bool, refl, sym, ap, ◌∙◌, add-one, append-nil, append_assoc, if◌then◌else◌}
use Rattle.nf_curve.proofs.Common.{slice_get_read, at_drop_all, err_from_is_err_and, ℚ, points_before, drop_entry}
use Rattle.nf_curve.proofs.cut.add_before.Goals as goal

pub returns-then-not-is_below : goal.returns-then-not-is_below
returns-then-not-is_below c =
    let g = slice_get_read c.args.points.now _ c.loop-point.point-index c.point-item.result refl c.loop-point-test.true c.point-item.is in
    let rest : List (ℚ × ℚ) = drop (suc c.loop-point.point-index) c.args.points.now in
    sym (append-nil c.loop-point.cut.items)
    ∙ ap (λ (b : Bool). c.loop-point.cut.items ++ (if b then c.point-item.result ∷ points_before c.args.last rest else [])) (sym (sym c.is_below.ensures ∙ c.if-not-is_below.true))
    ∙ ap (λ (l : List (ℚ × ℚ)). c.loop-point.cut.items ++ points_before c.args.last l) (sym (drop_entry c.args.points.now c.loop-point.point-index c.point-item.result g))
    ∙ c.loop-point.invariant

pub returns-in_err-push : goal.returns-in_err-push
returns-in_err-push c =
    let p = err_from_is_err_and c.from_residual.result c.from_residual.ensures.1 in rw (p.1, p.2) tt

pub loop-point-preserved : goal.loop-point-preserved
loop-point-preserved c =
    let g = slice_get_read c.args.points.now _ c.loop-point.point-index c.point-item.result refl c.loop-point-test.true c.point-item.is in
    let rest : List (ℚ × ℚ) = drop (suc c.loop-point.point-index) c.args.points.now in
    ap (λ (k : ℕ). c.push.new.self.items ++ points_before c.args.last (drop k c.args.points.now)) (add-one c.loop-point.point-index)
    ∙ ap (λ (l : List (ℚ × ℚ)). l ++ points_before c.args.last rest) c.in_ok-push.ensures.items
    ∙ append_assoc c.loop-point.cut.items (c.point-item.result ∷ []) (points_before c.args.last rest)
    ∙ ap (λ (b : Bool). c.loop-point.cut.items ++ (if b then c.point-item.result ∷ points_before c.args.last rest else [])) (sym (sym c.is_below.ensures ∙ c.if-not-is_below.false))
    ∙ ap (λ (l : List (ℚ × ℚ)). c.loop-point.cut.items ++ points_before c.args.last l) (sym (drop_entry c.args.points.now c.loop-point.point-index c.point-item.result g))
    ∙ c.loop-point.invariant

pub returns : goal.returns
returns c =
    sym (append-nil c.loop-point.cut.items)
    ∙ sym (at_drop_all (λ (l : List (ℚ × ℚ)). c.loop-point.cut.items ++ points_before c.args.last l) c.args.points.now c.loop-point.point-index c.loop-point-test.false)
    ∙ c.loop-point.invariant
