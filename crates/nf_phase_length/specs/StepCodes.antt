-- The injective code of an advance result, on which the model of the code type depends.
use Rattle.std.specs.Prelude.{List, refl}
use Rattle.std.specs.Coded.{Coded, code_by, coded×, coded_list}
use Rattle.nf_rational.specs.Rational.{ℚ, coded_ℚ}
use Rattle.nf_thin_def.specs.Advance.{Advanced}

abbrev pub coded_advanced : Coded Advanced
coded_advanced = code_by (ℚ × List ℚ) (coded× coded_ℚ (coded_list coded_ℚ)) (λ a. (a.length, a.labels))
    (λ p. record { length = p.0; labels = p.1 }) (λ _. refl)
