-- Injective codes of a link's data in a phase and of the results of the curve list. The models of the code types depend on them.
use Rattle.std.specs.Prelude.{Bool, Option, refl}
use Rattle.std.specs.Coded.{Coded, code_by, coded×, coded_bool, coded_option}
use Rattle.nf_rational.specs.Rational.{ℚ, coded_ℚ}
use Rattle.nf_thin_def.specs.CurveList.{QueueStep, LinkStep, LinkPhase}

abbrev pub coded_queue_step : Coded QueueStep
coded_queue_step = code_by (ℚ × ℚ) (coded× coded_ℚ coded_ℚ) (λ s. (s.size, s.slope)) (λ p. record { size = p.0; slope = p.1 }) (λ _. refl)

abbrev pub coded_link_step : Coded LinkStep
coded_link_step = code_by (ℚ × (Option ℚ × (Option ℚ × Option QueueStep)))
    (coded× coded_ℚ (coded× (coded_option coded_ℚ) (coded× (coded_option coded_ℚ) (coded_option coded_queue_step))))
    (λ s. (s.amount, (s.inflow_rate, (s.outflow_rate, s.queue))))
    (λ p. record { amount = p.0; inflow_rate = p.1.0; outflow_rate = p.1.1.0; queue = p.1.1.1 }) (λ _. refl)

abbrev pub coded_link_phase : Coded LinkPhase
coded_link_phase = code_by (Option ℚ × (ℚ × (ℚ × (Bool × (ℚ × (ℚ × (ℚ × ℚ)))))))
    (coded× (coded_option coded_ℚ)
    (coded× coded_ℚ (coded× coded_ℚ (coded× coded_bool (coded× coded_ℚ (coded× coded_ℚ (coded× coded_ℚ coded_ℚ)))))))
    (λ l. (l.capacity, (l.transit, (l.flow, (l.filled, (l.tail_slope, (l.head_slope, (l.tail_label, l.head_label))))))))
    (λ p. record {
      capacity = p.0;
      transit = p.1.0;
      flow = p.1.1.0;
      filled = p.1.1.1.0;
      tail_slope = p.1.1.1.1.0;
      head_slope = p.1.1.1.1.1.0;
      tail_label = p.1.1.1.1.1.1.0;
      head_label = p.1.1.1.1.1.1.1;
    })
    (λ _. refl)
