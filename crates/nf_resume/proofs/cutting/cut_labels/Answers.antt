use Rattle.std.proofs.Common.{ℕ, ◌≤◌, List, sym, ap, subst, ◌∙◌}
use Rattle.nf_resume.proofs.Common.{length-map, map-append, err_from_is_err_and, passes_Q, Grown, cut_short, points_of_each}
use Rattle.nf_frac_def.specs.declared.Part.TheVariants.{Curve as OfCurve}
use Rattle.nf_resume.proofs.Looping.{front_halts, front_goes, front_last}
use Rattle.nf_resume.proofs.Ends.{curve_there}
use Rattle.nf_resume.proofs.cutting.cut_labels.Goals as goal

pub returns-in_err-cut : goal.returns-in_err-cut
returns-in_err-cut c =
    let p = err_from_is_err_and c.from_residual-in_err-cut.result c.from_residual-in_err-cut.ensures.1 in
    rw (p.1, p.2) (front_halts (cut_short passes_Q c.args.reached) (points_of_each c.args.labels.now) OfCurve c.loop-label.label-index
    (points_of_each c.loop-label.cuts.items) c.loop-label.invariant c.label-item.result.points
    (curve_there c.args.labels.now c.loop-label.label-index c.label-item.result c.loop-label-test.true c.label-item.is) c.in_err-cut.field-0.0 c.in_err-cut.ensures)

pub loop-label-preserved : goal.loop-label-preserved
loop-label-preserved c =
    front_goes (cut_short passes_Q c.args.reached) (points_of_each c.args.labels.now) OfCurve c.loop-label.label-index
    (points_of_each c.loop-label.cuts.items) c.loop-label.invariant c.label-item.result.points
    (curve_there c.args.labels.now c.loop-label.label-index c.label-item.result c.loop-label-test.true c.label-item.is) c.in_ok-cut.cut.points
    (points_of_each c.push.new.self.items) c.in_ok-cut.ensures
    (ap (λ (l : List Grown). points_of_each l) c.in_ok-push.ensures.items ∙ map-append (λ (g : Grown). g.points) c.loop-label.cuts.items _)

pub returns : goal.returns
returns c =
    front_last (cut_short passes_Q c.args.reached) (points_of_each c.args.labels.now) OfCurve c.loop-label.label-index (points_of_each c.loop-label.cuts.items) c.loop-label.invariant
    (subst (λ (n : ℕ). n ≤ c.loop-label.label-index) (sym (length-map c.args.labels.now (λ (g : Grown). g.points))) c.loop-label-test.false)
