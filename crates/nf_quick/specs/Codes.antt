-- The injective code of a quickest flow, on which the model of its code type depends.
use Rattle.std.specs.Prelude.{List, refl}
use Rattle.std.specs.Coded.{Coded, code_by, coded×, coded_list}
use Rattle.nf_rational.specs.Rational.{ℚ, coded_ℚ}
use Rattle.nf_model.specs.Quickest.{Fed}
use Rattle.nf_quick_def.specs.Quick.{Quick}
use Rattle.nf_quick_walks.specs.Codes.{coded_fed}

abbrev pub coded_quick : Coded Quick
coded_quick = code_by (ℚ × (List Fed × (List ℚ × ℚ))) (coded× coded_ℚ (coded× (coded_list coded_fed) (coded× (coded_list coded_ℚ) coded_ℚ)))
    (λ q. (q.time, (q.walks, (q.cut, q.value)))) (λ p. record { time = p.0; walks = p.1.0; cut = p.1.1.0; value = p.1.1.1 }) (λ _. refl)
