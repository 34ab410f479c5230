-- Codes of the moment types. A code distinguishes the values of a type; the `Model` of a type in the code needs one.
use Rattle.std.specs.Prelude.{refl}
use Rattle.std.specs.Coded.{Coded, code_by, coded×}
use Rattle.nf_rational.specs.Rational.{ℚ, coded_ℚ}
use Rattle.nf_load_def.specs.Loading.{Waits, Exit}

abbrev pub coded_waits : Coded Waits
coded_waits = code_by (ℚ × (ℚ × ℚ)) (coded× coded_ℚ (coded× coded_ℚ coded_ℚ))
    (λ w. (w.time, (w.amount, w.queue))) (λ p. record { time = p.0; amount = p.1.0; queue = p.1.1 }) (λ _. refl)

abbrev pub coded_exit : Coded Exit
coded_exit = code_by (Waits × ℚ) (coded× coded_waits coded_ℚ) (λ l. (l.waits, l.exit))
    (λ p. record { waits = p.0; exit = p.1 }) (λ _. refl)
