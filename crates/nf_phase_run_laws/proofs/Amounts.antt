-- The amount that has entered each link by the end of a phase.
use Rattle.std.proofs.Common.{◌≡◌, ℕ, ◌-◌, List, length, take, Bool, true, false, Option, Some, None, slice_get, unwrap_or, map, sym, ap, refl, ◌∙◌, arith}
use Rattle.nf_phase_run_laws.proofs.Common.{last_or, option_map_or, slice_get_within, ℚ, 0ℚ, ◌+ℚ◌, ◌*ℚ◌, ◌≤ℚ◌, ≤ℚ_antisymm, Passing, number_at, Point, Link}
use Rattle.nf_phase_run_laws.proofs.Common.{Network, IsNetwork, IsLink, Trace, sets_at, Pattern, is_positive, LinkStep, link_phase, with_point, LinkCurves}
use Rattle.nf_phase_run_laws.proofs.Common.{trace_after, curves_after, amount_so_far, Standing, PhaseStep, standing_after, PhaseParts, WellRun, last-append}
use Rattle.nf_phase_run_laws.proofs.Common.{slice_get-image, entry, term_of_zero}
use Rattle.nf_phase_laws.proofs.StepValues.{rate_value, step_value, none_of, step_value_at}
use Rattle.nf_phase_laws.proofs.AfterPhase.{link_after_at}

-- the value of the last point of a trace
abbrev amount_of : Trace → ℚ
amount_of trace = option_map_or (λ (p : Point). p.1) (last_or None trace.points) 0ℚ

with-amount : (b : Bool) (points : List Point) (p : Point) → option_map_or (λ (p : Point). p.1) (last_or None (with_point b points p)) 0ℚ ≡ p.1
with-amount true points p = ap (λ (o : Option Point). option_map_or (λ (p : Point). p.1) o 0ℚ) (last-append None (take (length points - 1) points) p)
with-amount false points p = ap (λ (o : Option Point). option_map_or (λ (p : Point). p.1) o 0ℚ) (last-append None points p)

module _ (passes : Passing) (net : Network) (good : IsNetwork net) (s : Standing) (pattern : Pattern) (flows slopes : List ℚ) (step : PhaseStep) (well : WellRun net s)
    (not_negative : (v : ℕ) → 0ℚ ≤ℚ number_at slopes v) (still : (e : ℕ) (link : Link) → IsLink net e link → number_at slopes link.tail ≡ 0ℚ → number_at flows e ≡ 0ℚ)
    (parts : PhaseParts passes net s pattern flows slopes step) where
  abbrev before : ℕ → ℚ
  before e = number_at (map amount_so_far s.link_curves) e

  abbrev after : ℕ → ℚ
  after e = number_at (map amount_so_far (standing_after net s pattern slopes step).link_curves) e

  number_is : (curves : List LinkCurves) (e : ℕ) (c : LinkCurves) → slice_get curves e ≡ Some c → number_at (map amount_so_far curves) e ≡ amount_so_far c
  number_is curves e c at = ap (λ (o : Option ℚ). unwrap_or o 0ℚ) (slice_get-image amount_so_far curves e c at)

  module _ (e : ℕ) (link : Link) (p : IsLink net e link) (c : LinkCurves) (at : slice_get s.link_curves e ≡ Some c) where
    abbrev one : LinkStep
    one = step_value step.length (before e) (link_phase (sets_at net s.labels) pattern flows slopes step.labels (e, link))

    link_after : slice_get (standing_after net s pattern slopes step).link_curves e ≡ Some (curves_after step.labels link c one)
    link_after = link_after_at step.labels net.links s.link_curves step.links e link c one p at
        (step_value_at passes net (sets_at net s.labels) pattern step.length flows slopes step.labels (map amount_so_far s.link_curves) step.links parts.links e link p)

    by_rate : (b : Bool) → is_positive (number_at slopes link.tail) ≡ b
        → amount_of (trace_after c.inflow (number_at step.labels link.tail) (before e +ℚ step.length *ℚ number_at flows e)
        (rate_value b (number_at flows e) (number_at slopes link.tail)))
        ≡ before e +ℚ step.length *ℚ number_at flows e
    by_rate true t = with-amount _ c.inflow.points (number_at step.labels link.tail, before e +ℚ step.length *ℚ number_at flows e)
    by_rate false t =
        sym (number_is s.link_curves e c at)
        ∙ term_of_zero (before e) step.length (number_at flows e) (still e link p (≤ℚ_antisymm _ _ (none_of (number_at slopes link.tail) t) (not_negative link.tail)))

    amount_after : after e ≡ before e +ℚ step.length *ℚ number_at flows e
    amount_after = number_is (standing_after net s pattern slopes step).link_curves e (curves_after step.labels link c one) link_after
        ∙ by_rate (is_positive (number_at slopes link.tail)) refl

  pub amounts-on : (e : ℕ) (link : Link) → IsLink net e link → after e ≡ before e +ℚ step.length *ℚ number_at flows e
  amounts-on e link p =
      let c : (c : LinkCurves) × (slice_get s.link_curves e ≡ Some c) = entry s.link_curves e (let n = well.link_count in let h = slice_get_within net.links e link p in omega arith) in
      amount_after e link p c.0 c.1
