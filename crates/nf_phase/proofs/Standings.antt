-- Equality of run states, part by part.
use Rattle.std.proofs.Common.{◌≡◌, List, ap, ◌∙◌}
use Rattle.nf_phase.proofs.Common.{ℚ, Pattern, GrowingCurve, LinkCurves, Standing}

-- Equal labels.
pub same_parts : (time : ℚ) (labels other : List ℚ) (label_curves : List GrowingCurve) (link_curves : List LinkCurves) (last : Pattern) → labels ≡ other
    → ◌≡◌ {A = Standing} (record { time = time; labels = labels; label_curves = label_curves; link_curves = link_curves; made = 0; last = last })
    (record { time = time; labels = other; label_curves = label_curves; link_curves = link_curves; made = 0; last = last })
same_parts time labels other label_curves link_curves last e = λ i. record { time = time; labels = e i; label_curves = label_curves; link_curves = link_curves; made = 0; last = last }

-- A run state with unchanged curves.
pub same_standing : (now before : Standing) (label_curves : List GrowingCurve) (link_curves : List LinkCurves) → label_curves ≡ now.label_curves
    → link_curves ≡ now.link_curves → now ≡ before
    → record { time = now.time; labels = now.labels; label_curves = label_curves; link_curves = link_curves; made = now.made; last = now.last } ≡ before
same_standing now before label_curves link_curves labels links same =
    ap (λ (curves : List GrowingCurve). standing curves link_curves) labels ∙ ap (λ (curves : List LinkCurves). standing now.label_curves curves) links ∙ same
  where
    standing : List GrowingCurve → List LinkCurves → Standing
    standing labels links = record { time = now.time; labels = now.labels; label_curves = labels; link_curves = links; made = now.made; last = now.last }
