-- Injective codes of steps, walks and paths.
use Rattle.std.specs.Prelude.{ℕ, Bool, List, refl}
use Rattle.std.specs.Coded.{Coded, code_by, coded×, coded_ℕ, coded_bool, coded_list}
use Rattle.nf_rational.specs.Rational.{ℚ, coded_ℚ}
use Rattle.nf_quick_def.specs.Steps.{Step}
use Rattle.nf_quick_def.specs.Order.{Reach}
use Rattle.nf_quick_def.specs.Rounds.{Walk}

abbrev pub coded_step : Coded Step
coded_step = code_by (ℕ × Bool) (coded× coded_ℕ coded_bool) (λ s. (s.link, s.forward))
    (λ p. record { link = p.0; forward = p.1 }) (λ _. refl)

abbrev pub coded_walk : Coded Walk
coded_walk = code_by (List Step × (ℚ × ℚ)) (coded× (coded_list coded_step) (coded× coded_ℚ coded_ℚ)) (λ w. (w.steps, (w.length, w.room)))
    (λ p. record { steps = p.0; length = p.1.0; room = p.1.1 }) (λ _. refl)

abbrev pub coded_reach : Coded Reach
coded_reach = code_by (ℚ × List Step) (coded× coded_ℚ (coded_list coded_step)) (λ r. (r.distance, r.steps))
    (λ p. record { distance = p.0; steps = p.1 }) (λ _. refl)
