-- Injective codes of run states.
use Rattle.std.specs.Prelude.{ℕ, List, refl}
use Rattle.std.specs.Coded.{Coded, code_by, coded×, coded_ℕ, coded_list}
use Rattle.nf_rational.specs.Rational.{ℚ, coded_ℚ}
use Rattle.nf_model.specs.Pattern.{Pattern}
use Rattle.nf_model.specs.Codes.{coded_pattern}
use Rattle.nf_thin_def.specs.ReportCurves.{GrowingCurve, LinkCurves}
use Rattle.nf_thin_def.specs.PhaseRun.{Standing}
use Rattle.nf_phase_curves.specs.Growing.{coded_growing, coded_curves}

abbrev pub coded_standing : Coded Standing
coded_standing = code_by (ℚ × (List ℚ × (List GrowingCurve × (List LinkCurves × (ℕ × Pattern)))))
    (coded× coded_ℚ
    (coded× (coded_list coded_ℚ) (coded× (coded_list coded_growing) (coded× (coded_list coded_curves) (coded× coded_ℕ coded_pattern)))))
    (λ s. (s.time, (s.labels, (s.label_curves, (s.link_curves, (s.made, s.last))))))
    (λ p. record { time = p.0; labels = p.1.0; label_curves = p.1.1.0; link_curves = p.1.1.1.0; made = p.1.1.1.1.0; last = p.1.1.1.1.1 })
    (λ _. refl)
