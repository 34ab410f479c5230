-- A found phase extends the run: the preconditions of the extension, and its result.
use Rattle.std.proofs.Common.{◌≡◌, ℕ, suc, List, [], ◌∷◌, length, sym, ap, subst, refl, ◌∙◌, Bool, true, false, Some, slice_get, MatchBool}
use Rattle.nf_phase.proofs.Common.{ℚ, 0ℚ, ◌+ℚ◌, ◌<ℚ◌, Passing, number_at, Network, IsNetwork, hops, slacks_of, sets_at, Pattern, Equilibrium, GrowingCurve}
use Rattle.nf_phase.proofs.Common.{LinkCurves, label_curves_after, link_curves_after, Standing, Goes, flow_of, time_of_last, EndsAtLabels, PhaseParts}
use Rattle.nf_phase.proofs.Common.{phase_parts, reached_by, IsPhase-goes, Equilibrium-well, label_count_at, source_label_at, ends_at, Continues, Steps}
use Rattle.nf_phase.proofs.Common.{continues, begins, Phase, after_rest, Reaches, goes_on, keeps_on, LeadsOnlyTo, step_in, after_phase, LeadsOn}
use Rattle.nf_rational_laws.proofs.Polynomial.{reading_of}
use Rattle.nf_rational_laws.proofs.Linear.{lt, linear_lt}
use Rattle.nf_phase_laws.proofs.Length.{IsPhaseLength-some}
use Rattle.nf_thin_laws.proofs.Agree.{IsPhase-unique}
use Rattle.nf_phase_laws.proofs.StepValues.{steps-length}
use Rattle.nf_phase_laws.proofs.Moving.{inflow_moves, outflow_moves, queue_steps}
use Rattle.nf_phase_curves.specs.LinkGrowth.{AllLinksEndBefore}
use Rattle.nf_phase.proofs.Reached.{Stands, Stands-reached}

-- ---- every reachable run state
module _ (passes : Passing) (net : Network) (good : IsNetwork net) (s : Standing) (reaches : Reaches passes net s) where
  abbrev stands : Stands net s
  stands = Stands-reached passes net good s reaches

  pub equilibrium_reached : Equilibrium net (flow_of s)
  equilibrium_reached = Equilibrium-well net good s stands.well

  pub ends_reached : EndsAtLabels net s
  ends_reached = ends_at net good s stands.well

  pub only_phase : (horizon : ℚ) (patterns : ℕ) (t : Standing) → Goes passes net horizon patterns s t → LeadsOnlyTo net horizon (reached_by s) (reached_by t)
  only_phase horizon patterns t g =
      let is = IsPhase-goes passes net good (record { horizon = horizon; phases = 0; patterns = patterns }) s t g stands.well in
      record { is_phase = is; only = λ other is_other. sym (IsPhase-unique net horizon good (reached_by s) (reached_by t) other is is_other) }

  -- ---- one phase more
  pub reaches_step : (horizon : ℚ) (patterns : ℕ) (t : Standing) → Steps passes net horizon patterns s t → Reaches passes net t
  reaches_step horizon patterns _ (continues c g) = keeps_on horizon patterns reaches c g
  reaches_step horizon patterns t (begins c g) = goes_on horizon patterns reaches g

  pub only_step : (horizon : ℚ) (patterns : ℕ) (t : Standing) → Steps passes net horizon patterns s t → LeadsOnlyTo net horizon (reached_by s) (reached_by t)
  only_step horizon patterns _ (continues {t = t} c g) = only_phase horizon patterns t g
  only_step horizon patterns t (begins c g) = only_phase horizon patterns t g

-- A phase that is no remainder of an interrupted phase is a phase of the run.
pub begin_step : (passes : Passing) (net : Network) (horizon : ℚ) (patterns : ℕ) (s t : Standing) → (Continues net s → ⊥)
    → Steps passes net horizon patterns s t → Goes passes net horizon patterns s t
begin_step passes net horizon patterns s _ apart (continues c g) = absurd (apart c)
begin_step passes net horizon patterns s t apart (begins c g) = g

-- ---- a phase that is found
abbrev pub made_goes : (passes : Passing) (net : Network) (horizon : ℚ) (patterns : ℕ) (s : Standing) (phase : Phase) → LeadsOn passes net horizon patterns s phase
    → (t : Standing) → t ≡ after_phase net s phase → Goes passes net horizon patterns s t
made_goes passes net horizon patterns s phase leads t e = record {
  place = leads.place;
  pattern = phase.thin.pattern;
  flows = phase.thin.flows.items;
  slopes = phase.thin.slopes.items;
  finds = leads.finds;
  step = step_in phase;
  lists = leads.lists;
  is_length = leads.is_length;
  new_is = e;
}

module _ (passes : Passing) (net : Network) (good : IsNetwork net) (horizon : ℚ) (patterns : ℕ) (s : Standing) (reaches : Reaches passes net s) (phase : Phase)
    (leads : LeadsOn passes net horizon patterns s phase) where
  abbrev next : Standing
  next = after_phase net s phase

  abbrev here : Stands net s
  here = Stands-reached passes net good s reaches

  pub goes_made : (t : Standing) → t ≡ next → Goes passes net horizon patterns s t
  goes_made = made_goes passes net horizon patterns s phase leads

  pub steps_made : (rests : Bool) → MatchBool rests (Continues net s) (Continues net s → ⊥) → (t : Standing) → t ≡ after_rest rests net s phase → Steps passes net horizon patterns s t
  steps_made true c t e = subst (Steps passes net horizon patterns s) (sym e) (continues c (goes_made next refl))
  steps_made false c t e = begins c (goes_made t e)

  abbrev there : Stands net next
  there = Stands-reached passes net good next (goes_on horizon patterns reaches (goes_made next refl))

  some : 0ℚ <ℚ phase.length
  some = IsPhaseLength-some net (slacks_of (hops net) s.labels) phase.thin.slopes.items s.time horizon phase.length leads.finds.below leads.is_length

  -- ---- counts
  pub curve_count : length s.label_curves ≡ net.nodes
  curve_count = here.well.label_count

  pub link_count : length s.link_curves ≡ length net.links
  link_count = here.well.link_count

  pub new_label_count : length phase.labels.items ≡ net.nodes
  new_label_count = label_count_at net good next there.well

  pub slope_count : length phase.thin.slopes.items ≡ net.nodes
  slope_count = leads.finds.search.is_search.answers.solution.solves.slope_count

  parts : PhaseParts passes net s phase.thin.pattern phase.thin.flows.items phase.thin.slopes.items (step_in phase)
  parts =
      phase_parts passes net good horizon patterns s phase.thin.pattern phase.thin.flows.items phase.thin.slopes.items (step_in phase)
      (slope_count ∙ sym (label_count_at net good s here.well)) leads.lists

  pub step_count : length phase.steps.items ≡ length net.links
  step_count =
      steps-length passes net (sets_at net s.labels) phase.thin.pattern phase.length phase.thin.flows.items phase.thin.slopes.items phase.labels.items _
      phase.steps.items parts.links

  -- ---- the labels at the end of the phase
  pub source_next : number_at phase.labels.items net.source ≡ s.time +ℚ phase.length
  source_next = source_label_at net good next there.well

  later : (a t : ℚ) → 0ℚ <ℚ t → a <ℚ a +ℚ t
  later a t k = linear_lt (a ∷ t ∷ []) (lt k ∷ []) (search reading_of depth 12) tt

  pub labels_later : (reached : ℚ) → reached ≡ s.time +ℚ phase.length → (v : ℕ) (curve : GrowingCurve) → slice_get s.label_curves v ≡ Some curve → time_of_last curve.points <ℚ reached
  labels_later reached e v curve at = subst (λ (x : ℚ). time_of_last curve.points <ℚ x) (sym e)
      (subst (λ (x : ℚ). x <ℚ s.time +ℚ phase.length) (sym ((ends_at net good s here.well).labels v curve at)) (later s.time phase.length some))

  pub links_later : AllLinksEndBefore net phase.labels.items s.link_curves phase.steps.items
  links_later e link curves step p at one =
      let ends : EndsAtLabels net s = ends_at net good s here.well in
      let count = slope_count ∙ sym (label_count_at net good s here.well) in
      record {
        inflow = λ rate is. subst (λ (x : ℚ). x <ℚ number_at phase.labels.items link.tail) (sym (ends.inflows e link curves p at))
            (inflow_moves passes net s phase.thin.pattern phase.thin.flows.items phase.thin.slopes.items (step_in phase) parts count some e link p step one rate is);
        outflow = λ rate is. subst (λ (x : ℚ). x <ℚ number_at phase.labels.items link.head) (sym (ends.outflows e link curves p at))
            (outflow_moves passes net s phase.thin.pattern phase.thin.flows.items phase.thin.slopes.items (step_in phase) parts count some e link p step one rate is);
        queue = λ queue is. subst (λ (x : ℚ). x <ℚ number_at phase.labels.items link.tail) (sym (ends.queues e link curves p at))
            (queue_steps passes net s phase.thin.pattern phase.thin.flows.items phase.thin.slopes.items (step_in phase) parts count some e link p step one queue is);
      }

  -- ---- the run after the phase
  pub new_standing : (reached : ℚ) (label_curves : List GrowingCurve) (link_curves : List LinkCurves) (made : ℕ) (last : Pattern) → reached ≡ s.time +ℚ phase.length
      → label_curves ≡ label_curves_after reached phase.labels.items phase.thin.slopes.items s.label_curves
      → link_curves ≡ link_curves_after phase.labels.items net.links s.link_curves phase.steps.items
      → made ≡ suc s.made → last ≡ phase.thin.pattern
      → record { time = reached; labels = phase.labels.items; label_curves = label_curves; link_curves = link_curves; made = made; last = last } ≡ next
  new_standing reached label_curves link_curves made last e f g h k =
      let f_next = f ∙ ap (λ (t : ℚ). label_curves_after t phase.labels.items phase.thin.slopes.items s.label_curves) e in
      λ i. record { time = e i; labels = phase.labels.items; label_curves = f_next i; link_curves = g i; made = h i; last = k i }
