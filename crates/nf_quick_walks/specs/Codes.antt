-- Injective codes of the values of this crate, on which the models of the code types depend.
use Rattle.std.specs.Prelude.{ℕ, List, Option, refl}
use Rattle.std.specs.Coded.{Coded, code_by, coded×, coded_ℕ, coded_list, coded_option}
use Rattle.nf_rational.specs.Rational.{ℚ, coded_ℚ}
use Rattle.nf_model.specs.Quickest.{Fed}
use Rattle.nf_quick_def.specs.Rounds.{Walk}
use Rattle.nf_quick_def.specs.Pushes.{Times}
use Rattle.nf_quick_def.specs.Codes.{coded_walk}
use Rattle.nf_quick_def.specs.Quick.{Augment, QuickStanding}

abbrev pub coded_fed : Coded Fed
coded_fed = code_by (ℚ × List ℕ) (coded× coded_ℚ (coded_list coded_ℕ)) (λ f. (f.rate, f.walk))
    (λ p. record { rate = p.0; walk = p.1 }) (λ _. refl)

abbrev pub coded_augment : Coded Augment
coded_augment = code_by (Walk × ℚ) (coded× coded_walk coded_ℚ) (λ a. (a.walk, a.amount))
    (λ p. record { walk = p.0; amount = p.1 }) (λ _. refl)

abbrev pub coded_times : Coded Times
coded_times = code_by (ℚ × (ℚ × ℚ)) (coded× coded_ℚ (coded× coded_ℚ coded_ℚ)) (λ t. (t.rate, (t.cost, t.time)))
    (λ p. record { rate = p.0; cost = p.1.0; time = p.1.1 }) (λ _. refl)

abbrev pub coded_standing : Coded QuickStanding
coded_standing = code_by (List ℚ × (List Augment × (ℚ × (ℚ × Option ℚ))))
    (coded× (coded_list coded_ℚ) (coded× (coded_list coded_augment) (coded× coded_ℚ (coded× coded_ℚ (coded_option coded_ℚ)))))
    (λ s. (s.flows, (s.pushed, (s.rate, (s.cost, s.time)))))
    (λ p. record { flows = p.0; pushed = p.1.0; rate = p.1.1.0; cost = p.1.1.1.0; time = p.1.1.1.1 }) (λ _. refl)
