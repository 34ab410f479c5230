-- The operations of a phase in the order of the code: failures, and the extension of the run.
use Rattle.std.proofs.Common.{◌≡◌, ℕ, suc, List, length, sym, ap, subst, refl, ◌∙◌, Option, map, Result, Ok, Err, MatchOption, IfErr}
use Rattle.nf_phase.proofs.Common.{IsErrAnd, length-map, ℚ, ◌<ℚ◌, Passing, Extend, Advance, Curve, PassedAt, Halt, at_part, Stops, Network, IsNetwork}
use Rattle.nf_phase.proofs.Common.{hop_of, hops, Sets, slack, slacks_of, sets_at, IsExtension, IsUnending, IsPhaseLength, slack_list, extend_list, Advanced}
use Rattle.nf_phase.proofs.Common.{advance_list, LinkStep, curve_list, LinkCurves, amount_so_far, Found, Standing, PhaseStep, IsSearchHere, phase_lists}
use Rattle.nf_phase.proofs.Common.{advanced_exact, length-moved, label_count_at, part_ok, StepFault, PhaseStart, Phase, of_halt, Reaches, IsFaultOf}
use Rattle.nf_phase.proofs.Common.{step_in, IsFound, ListsPass, LeadsOn}
use Rattle.nf_phase.proofs.Reached.{Stands, Stands-reached, active_count}
use Rattle.nf_phase.proofs.Found.{by_fault, seeks_here, seeks_below, extend_cause, advance_cause, curve_cause, lists_made, phase_length}

-- ---- the search
pub found_here : (passes : Passing) (net : Network) (patterns : ℕ) (s : Standing)
    → slack_list passes (hops net) s.labels ≡ Ok (slacks_of (hops net) s.labels) → (horizon : ℚ) (found : PhaseStart)
    → found.slacks.items ≡ slacks_of (hops net) s.labels → found.sets ≡ sets_at net s.labels
    → ((place : ℕ) × IsSearchHere passes net horizon patterns s (Found place found.thin.pattern found.thin.flows.items found.thin.slopes.items)) → IsFound passes net patterns s found
found_here passes net patterns s list horizon found slacks sets h = record { slacks = slacks; sets = sets; seeks = (h.0, seeks_here passes net patterns s list horizon _ h.1) }

-- ---- lengths of lists
module _ (passes : Passing) (net : Network) (patterns : ℕ) (s : Standing) (found : PhaseStart) (is : IsFound passes net patterns s found) where
  pub slack_count : (slacks : List ℚ) → slacks ≡ found.slacks.items → length slacks ≡ length net.links
  slack_count slacks e = ap (λ (l : List ℚ). length l) (e ∙ is.slacks) ∙ length-map (hops net) (slack s.labels) ∙ length-map net.links hop_of

  pub thin_slope_count : (slopes : List ℚ) → slopes ≡ found.thin.slopes.items → length slopes ≡ net.nodes
  thin_slope_count slopes e = ap (λ (l : List ℚ). length l) e ∙ is.seeks.1.is_search.answers.solution.solves.slope_count

  pub thin_flow_count : (flows : List ℚ) → flows ≡ found.thin.flows.items → length flows ≡ length net.links
  thin_flow_count flows e = ap (λ (l : List ℚ). length l) e ∙ is.seeks.1.is_search.answers.solution.solves.flow_count

-- ---- the lists
module _ (passes : Passing) (net : Network) (good : IsNetwork net) (horizon : ℚ) (patterns : ℕ) (s : Standing) (reaches : Reaches passes net s) (found : PhaseStart)
    (is : IsFound passes net patterns s found) where
  abbrev thin_slopes : List ℚ
  thin_slopes = found.thin.slopes.items

  abbrev stands : Stands net s
  stands = Stands-reached passes net good s reaches

  abbrev Stopped : StepFault → Type 0
  Stopped = IsFaultOf (ListsPass passes net horizon s found.thin.pattern found.thin.flows.items thin_slopes) (suc s.made)

  pub pattern_count : length found.thin.pattern ≡ length net.links
  pattern_count =
      let first = is.seeks.1.is_search.answers in
      (is.seeks.1.is_search.is_listing.listed is.seeks.0 found.thin.pattern first.has_place).states.count ∙ active_count net s.labels

  slope_count : length thin_slopes ≡ length s.labels
  slope_count = is.seeks.1.is_search.answers.solution.solves.slope_count ∙ sym (label_count_at net good s stands.well)

  pub counts_agree : (labels slopes : List ℚ) → labels ≡ s.labels → slopes ≡ thin_slopes → length slopes ≡ length labels
  counts_agree labels slopes e f = ap (λ (l : List ℚ). length l) f ∙ slope_count ∙ ap (λ (l : List ℚ). length l) (sym e)

  pub amounts_count : (amounts : List ℚ) (curves : List LinkCurves) → amounts ≡ map amount_so_far curves → curves ≡ s.link_curves → length amounts ≡ length net.links
  amounts_count amounts curves e f = ap (λ (l : List ℚ). length l) e ∙ length-map curves amount_so_far ∙ ap (λ (l : List LinkCurves). length l) f ∙ stands.well.link_count

  -- ---- the assembled phase
  abbrev with_links : List LinkStep → Advanced → PhaseStep
  with_links links end = record { length = end.length; labels = end.labels; links = links }

  pub leads_on : s.time <ℚ horizon → (end : Advanced) (phase : Phase)
      → phase_lists passes net horizon s found.thin.pattern found.thin.flows.items thin_slopes ≡ Ok (record { length = end.length; labels = end.labels; links = phase.steps.items })
      → IsPhaseLength net (slacks_of (hops net) s.labels) thin_slopes s.time horizon end.length → phase.thin ≡ found.thin
      → ◌≡◌ {A = Advanced} (record { length = phase.length; labels = phase.labels.items }) end → LeadsOn passes net horizon patterns s phase
  leads_on below end phase lists long same_thin same_end = let same_step : step_in phase ≡ with_links phase.steps.items end = ap (with_links phase.steps.items) same_end in record {
    place = is.seeks.0;
    finds = rw same_thin (seeks_below passes net patterns s horizon _ below is.seeks.1);
    lists = rw (same_thin, same_step) lists;
    is_length = rw (ap (λ (a : Advanced). a.length) same_end, same_thin) long;
  }

  -- ---- the extension
  module _ (slacks slopes : List ℚ) (time : ℚ) (same_slacks : slacks ≡ found.slacks.items) (same_slopes : slopes ≡ thin_slopes) (same_time : time ≡ s.time) where
    extend_is : at_part Extend (extend_list passes net (slacks_of (hops net) s.labels) thin_slopes s.time) ≡ at_part Extend (extend_list passes net slacks slopes time)
    extend_is = rw (same_slacks ∙ is.slacks, same_slopes, same_time) refl

    pub extension_stops : (at : PassedAt ℚ) → Err at ≡ at_part Extend (extend_list passes net slacks slopes time) → {A : Type 0} (result : Result A StepFault)
        → IsErrAnd result (λ f. f ≡ StepFault.Passed at) → IfErr result Stopped
    extension_stops at h result e = by_fault result (StepFault.Passed at) Stopped e
        (extend_cause passes net horizon s found.thin.pattern found.thin.flows.items thin_slopes at (extend_is ∙ sym h))

    module _ (extension : Option ℚ) (extended : Ok extension ≡ at_part Extend (extend_list passes net slacks slopes time)) where
      extend_ok : at_part Extend (extend_list passes net (slacks_of (hops net) s.labels) thin_slopes s.time) ≡ Ok extension
      extend_ok = extend_is ∙ sym extended

      -- ---- the end of the phase
      module _ (labels slopes_2 : List ℚ) (same_labels : labels ≡ s.labels) (same_slopes_2 : slopes_2 ≡ thin_slopes) where
        advance_is : at_part Advance (advance_list passes horizon s.time extension s.labels thin_slopes) ≡ at_part Advance (advance_list passes horizon time extension labels slopes_2)
        advance_is = rw (same_labels, same_slopes_2, same_time) refl

        pub advance_stops : (halt : Halt ℚ) → Stops {A = Advanced} (λ q. q) halt
            (at_part Advance (advance_list passes horizon time extension labels slopes_2)) → {A : Type 0} (result : Result A StepFault)
            → IsErrAnd result (λ f. f ≡ of_halt halt) → IfErr result Stopped
        advance_stops halt h result e = by_fault result (of_halt halt) Stopped e
            (advance_cause passes net horizon s found.thin.pattern found.thin.flows.items thin_slopes extension extend_ok halt
            (subst (λ (r : Result Advanced (PassedAt ℚ)). Stops {A = Advanced} (λ q. q) halt r) (sym advance_is) h))

        module _ (end : Advanced) (advanced : at_part Advance (advance_list passes horizon time extension labels slopes_2) ≡ Ok end) where
          advance_ok : at_part Advance (advance_list passes horizon s.time extension s.labels thin_slopes) ≡ Ok end
          advance_ok = advance_is ∙ advanced

          pub end_count : length end.labels ≡ net.nodes
          end_count =
              ap (λ (l : List ℚ). length l) (advanced_exact passes horizon s.time extension s.labels thin_slopes end slope_count (part_ok Advance _ end (sym advance_ok))).1
              ∙ length-moved s.labels thin_slopes end.length slope_count ∙ label_count_at net good s stands.well

          pub lasts : MatchOption extension (IsUnending net slacks slopes time) (IsExtension net slacks slopes time)
              → IsPhaseLength net (slacks_of (hops net) s.labels) thin_slopes s.time horizon end.length
          lasts long =
              phase_length passes net (slacks_of (hops net) s.labels) s.labels thin_slopes s.time horizon extension end slope_count
              (rw (sym (same_slacks ∙ is.slacks), sym same_slopes, sym same_time) long) advance_ok

          -- ---- the links
          module _ (sets : Sets) (flows slopes_3 new_labels amounts : List ℚ) (curves : List LinkCurves) (same_sets : sets ≡ found.sets) (same_flows : flows ≡ found.thin.flows.items)
              (same_slopes_3 : slopes_3 ≡ thin_slopes) (same_new : new_labels ≡ end.labels) (same_amounts : amounts ≡ map amount_so_far curves)
              (same_curves : curves ≡ s.link_curves) where
            curve_is : at_part Curve (curve_list passes net (sets_at net s.labels) found.thin.pattern end.length found.thin.flows.items thin_slopes
                end.labels (map amount_so_far s.link_curves))
                ≡ at_part Curve (curve_list passes net sets found.thin.pattern end.length flows slopes_3 new_labels amounts)
            curve_is = rw (same_sets ∙ is.sets, same_flows, same_slopes_3, same_new, same_amounts ∙ ap (map amount_so_far) same_curves) refl

            pub curve_stops : (halt : Halt ℚ) → Stops {A = List LinkStep} (λ q. q) halt
                (at_part Curve (curve_list passes net sets found.thin.pattern end.length flows slopes_3 new_labels amounts))
                → {A : Type 0} (result : Result A StepFault) → IsErrAnd result (λ f. f ≡ of_halt halt) → IfErr result Stopped
            curve_stops halt h result e = by_fault result (of_halt halt) Stopped e
                (curve_cause passes net horizon s found.thin.pattern found.thin.flows.items thin_slopes extension extend_ok end advance_ok halt
                (subst (λ (r : Result (List LinkStep) (PassedAt ℚ)). Stops {A = List LinkStep} (λ q. q) halt r) (sym curve_is) h))

            pub lists_go : (links : List LinkStep) → at_part Curve (curve_list passes net sets found.thin.pattern end.length flows slopes_3 new_labels amounts) ≡ Ok links
                → phase_lists passes net horizon s found.thin.pattern found.thin.flows.items thin_slopes ≡ Ok (record { length = end.length; labels = end.labels; links = links })
            lists_go links h = lists_made passes net horizon s found.thin.pattern found.thin.flows.items thin_slopes extension extend_ok end advance_ok links (curve_is ∙ h)
