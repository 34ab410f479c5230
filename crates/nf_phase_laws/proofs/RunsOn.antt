-- Runs whose first phase may be the remainder of an interrupted one. A run from the start is not mid-phase.
use Rattle.std.proofs.Common.{◌≡◌, ℕ, [], ◌∷◌, length, Option, None, slice_get, sym, ap, ◌∙◌}
use Rattle.nf_phase_laws.proofs.Common.{slice_get-replicate, slice_get_within, ℚ, 0ℚ, ◌+ℚ◌, ◌-ℚ◌, reading_of, eq, linear_eq, Passing, number_at, Link}
use Rattle.nf_phase_laws.proofs.Common.{Network, IsNetwork, IsLink, Pattern, AreTransitLabels, Cause, AreTransitLabels-least, Standing, Bounds, IsStart}
use Rattle.nf_phase_def.specs.Open.{Continues, Steps, continues, begins, RunsOn, at_horizon, at_phases, fails, steps}
use Rattle.nf_phase_laws.proofs.WellRun.{WellRun, WellRun-counted}
use Rattle.nf_phase_laws.proofs.Run.{WellRun-goes}

-- ---- phase by phase
module _ (passes : Passing) (net : Network) (good : IsNetwork net) (bounds : Bounds) where
  pub WellRun-step : (s t : Standing) → WellRun net s → Steps passes net bounds.horizon bounds.patterns s t → WellRun net t
  WellRun-step s _ well (continues {t = t} c g) = WellRun-counted net t t.made s.last (WellRun-goes passes net good bounds s t g well)
  WellRun-step s t well (begins c g) = WellRun-goes passes net good bounds s t g well

  pub WellRun-on : (s last : Standing) (stop : Option (Cause ℚ)) → WellRun net s → RunsOn passes net bounds s last stop → WellRun net last
  WellRun-on s last stop well (at_horizon e) = well
  WellRun-on s last stop well (at_phases below e) = well
  WellRun-on s last stop well (fails may f) = well
  WellRun-on s last stop well (steps {new = t} may step rest) = WellRun-on t last stop (WellRun-step s t well step) rest

-- ---- a run from the start is not mid-phase: a link with slack 0 leads into the sink, and no link has a state
pub closed-at_start : (net : Network) (s : Standing) → IsNetwork net → IsStart net s → Continues net s → ⊥
closed-at_start net s good start (made, opened) =
    let labels : AreTransitLabels net (number_at s.labels) = AreTransitLabels-least net (number_at s.labels) good start.labels.each in
    let w : (e : ℕ) × (link : Link) × IsLink net e link × (link.head ≡ net.sink)
    × (number_at s.labels net.sink ≡ number_at s.labels link.tail +ℚ link.transit) = labels.entered net.sink good.sink (λ e. good.apart (sym e)) in
    opened.apart w.0 w.1 w.2 (ap (λ (l : Pattern). slice_get l w.0) start.last ∙ slice_get-replicate (length net.links) w.0 None (slice_get_within net.links w.0 w.1 w.2))
    (just_then _ _ w.1.transit (ap (number_at s.labels) w.3 ∙ w.4))
  where
    just_then : (b a r : ℚ) → b ≡ a +ℚ r → b -ℚ (a +ℚ r) ≡ 0ℚ
    just_then b a r e = linear_eq (b ∷ a ∷ r ∷ []) (eq e ∷ []) (search reading_of) tt tt
