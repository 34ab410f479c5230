-- If a phase run stopped because no pattern was left, there is no thin flow there.
use Rattle.std.proofs.Common.{◌≡◌, ℕ, suc, ◌<◌, List, length, get_or, Option, Some, None, unwrap_or, sym, ap, subst, ◌∙◌, arith}
use Rattle.nf_complete_laws.proofs.Common.{none-some, slice_get-get_or, same_Some, ℚ, 0ℚ, not_both_ℚ, Passing, number_at, Network, IsNetwork, rate_at}
use Rattle.nf_complete_laws.proofs.Common.{sets_at, IsThinFlow, AreSets-sets_at, HoldNoCycle-sets_at, same_entries, AreGoodSets, length-map-range_with_len}
use Rattle.nf_complete_laws.proofs.Common.{get_or-map-range_with_len, SearchAnswer, Found, OverBudget, PassesAt, NoPattern, slack_of_resetting}
use Rattle.nf_frac_def.specs.declared.PassedAt.{PassedAt}
use Rattle.nf_model.specs.Equilibrium.{label}
use Rattle.nf_net_def.specs.declared.Cause.{Cause}
use Rattle.nf_net_def.specs.Report.{Report}
use Rattle.nf_thin_def.specs.PhaseRun.{Standing, Bounds, Seeks, cause_of_search, Fails, at_slack, at_search, at_lists, Runs, at_horizon, at_phases, fails}
use Rattle.nf_thin_def.specs.PhaseRun.{goes, IsRunReport, flow_of}
use Rattle.nf_model_laws.proofs.Supply.{rate_from-not_negative}
use Rattle.nf_phase_laws.proofs.WellRun.{WellRun, WellRun-start}
use Rattle.nf_phase_laws.proofs.Run.{WellRun-goes}
use Rattle.nf_phase_laws.proofs.Standing.{grown_at, label_count_at, unbounded_slack_at}
use Rattle.nf_complete_def.specs.Reached.{labels_reached, StopsForNoThinFlow}
use Rattle.nf_complete_laws.proofs.Settled.{none-search}

-- the sets of a phase are such sets
pub AreGoodSets-well : (net : Network) (good : IsNetwork net) (s : Standing) → WellRun net s → AreGoodSets net (sets_at net s.labels)
AreGoodSets-well net good s well = record {
  network = good;
  sets_are = AreSets-sets_at net s.labels;
  acyclic = HoldNoCycle-sets_at net s.labels good;
  bounded = λ e link p none reset. not_both_ℚ _ _ (slack_of_resetting net s.labels e link p reset) (unbounded_slack_at net good s well e link p none);
}

number_get : (xs : List ℚ) (v : ℕ) → v < length xs → number_at xs v ≡ get_or xs v 0ℚ
number_get xs v h = ap (λ (o : Option ℚ). unwrap_or o 0ℚ) (slice_get-get_or xs v 0ℚ h)

pub labels_are : (net : Network) (good : IsNetwork net) (s : Standing) → WellRun net s → labels_reached net (flow_of s) ≡ s.labels
labels_are net good s well = same_entries 0ℚ (labels_reached net (flow_of s)) s.labels (many ∙ sym (label_count_at net good s well)) (λ v h. at v (subst (λ (k : ℕ). v < k) many h))
  where
    many : length (labels_reached net (flow_of s)) ≡ net.nodes
    many = length-map-range_with_len (λ v. label (flow_of s) v s.time) 0 net.nodes

    at : (v : ℕ) → v < net.nodes → number_at (labels_reached net (flow_of s)) v ≡ number_at s.labels v
    at v h = number_get (labels_reached net (flow_of s)) v (let m = many in omega arith) ∙ get_or-map-range_with_len (λ v. label (flow_of s) v s.time) 0 net.nodes v v 0ℚ h (omega arith)
        ∙ (grown_at net good s well).stands.same v h

-- no thin flow continues from a run state
abbrev pub NoneGoesOn : Network → Standing → Type 0
NoneGoesOn net s = (flows slopes : List ℚ) → IsThinFlow net (sets_at net s.labels) (rate_at net s.time) flows slopes → ⊥

-- the end of a run: if it stopped because no pattern was left, no thin flow continues
pub record EndsForNone (net : Network) (last : Standing) (stop : Option (Cause ℚ)) : Type 0 where
  pub well : WellRun net last
  pub none : (phase : ℕ) → stop ≡ Some (Cause.NoPattern phase) → NoneGoesOn net last

-- ---- other causes
abbrev pub Wants : Cause ℚ → ℕ → Type 0
Wants c phase = c ≡ Cause.NoPattern phase

pub over_other : (p t phase : ℕ) → Wants (Cause.Patterns p t) phase → ⊥
over_other p t phase h = cc

pub passed_other : (p : ℕ) (o : Option ℕ) (at : PassedAt ℚ) (phase : ℕ) → Wants (Cause.Passed p o at) phase → ⊥
passed_other p o at phase h = cc

pub phases_other : (m phase : ℕ) → Wants (Cause.Phases m) phase → ⊥
phases_other m phase h = cc

module _ (passes : Passing) (net : Network) (good : IsNetwork net) (bounds : Bounds) where
  no_answer : (s : Standing) (phase : ℕ) (a : SearchAnswer) → Seeks passes net bounds.horizon bounds.patterns s a
      → cause_of_search (suc s.made) bounds.patterns a ≡ Some (Cause.NoPattern phase) → WellRun net s
      → NoneGoesOn net s
  no_answer s phase (Found place pattern f l) k h well flows slopes thin = none-some _ h
  no_answer s phase OverBudget k h well flows slopes thin = over_other (suc s.made) bounds.patterns phase (same_Some _ _ h)
  no_answer s phase (PassesAt place at) k h well flows slopes thin = passed_other (suc s.made) (Some place) at phase (same_Some _ _ h)
  no_answer s phase NoPattern k h well flows slopes thin =
      none-search passes net (sets_at net s.labels) (rate_at net s.time) k.search.base bounds.patterns flows slopes (AreGoodSets-well net good s well)
      (rate_from-not_negative net.pieces s.time good.pieces) k.search.is_search thin

  none_fails : (s : Standing) (c : Cause ℚ) (phase : ℕ) → c ≡ Cause.NoPattern phase → WellRun net s → Fails passes net bounds.horizon bounds.patterns s c → NoneGoesOn net s
  none_fails s _ phase e well (at_slack p below h) flows slopes thin = passed_other _ _ _ phase e
  none_fails s c phase e well (at_search a _ k h) flows slopes thin = no_answer s phase a k (h ∙ ap (λ (d : Cause ℚ). Some d) e) well flows slopes thin
  none_fails s _ phase e well (at_lists place pattern f l p k h) flows slopes thin = passed_other _ _ _ phase e

  -- ---- the ends of a run
  pub horizon_ends : (s : Standing) → WellRun net s → EndsForNone net s None
  horizon_ends s well = record { well = well; none = λ phase e. absurd (none-some _ e) }

  pub phases_end : (s : Standing) → WellRun net s → EndsForNone net s (Some (Cause.Phases s.made))
  phases_end s well = record { well = well; none = λ phase e. absurd (phases_other _ phase (same_Some _ _ e)) }

  pub failing_ends : (s : Standing) (c : Cause ℚ) → WellRun net s → Fails passes net bounds.horizon bounds.patterns s c → EndsForNone net s (Some c)
  failing_ends s c well f = record { well = well; none = λ phase e. none_fails s c phase (same_Some c (Cause.NoPattern phase) e) well f }

  run_ends : (s last : Standing) (stop : Option (Cause ℚ)) → WellRun net s → Runs passes net bounds s last stop → EndsForNone net last stop
  run_ends s last stop well (at_horizon h) = horizon_ends s well
  run_ends s last stop well (at_phases below h) = phases_end s well
  run_ends s last stop well (fails {cause = c} may f) = failing_ends s c well f
  run_ends s last stop well (goes {new = t} may g rest) = run_ends t last stop (WellRun-goes passes net good bounds s t g well) rest

-- the flow of the run state at the end
pub end_stops : (net : Network) (last : Standing) (stop : Option (Cause ℚ)) → IsNetwork net → EndsForNone net last stop → StopsForNoThinFlow net stop (flow_of last)
end_stops net last stop good ends phase h flows slopes =
    subst (λ (l : List ℚ). IsThinFlow net (sets_at net l) (rate_at net last.time) flows slopes → ⊥) (sym (labels_are net good last ends.well)) (ends.none phase h flows slopes)

pub stops_for_none : (passes : Passing) (net : Network) (bounds : Bounds) (report : Report) → IsNetwork net → IsRunReport passes net bounds report
    → StopsForNoThinFlow net report.stop report.flow
stops_for_none passes net bounds report good r = subst (λ (w : Report). StopsForNoThinFlow net w.stop w.flow) (sym r.report_is)
    (end_stops net r.last r.stop good (run_ends passes net good bounds r.run.first r.last r.stop (WellRun-start net good r.run.first r.run.start) r.run.runs))
