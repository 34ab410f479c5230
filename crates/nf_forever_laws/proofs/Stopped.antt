-- If a run without a horizon stopped because no pattern was left, there is no thin flow where it stopped.
use Rattle.std.proofs.Common.{◌≡◌, ℕ, suc, List, refl, sym, ap, subst, ◌∙◌, Some}
use Rattle.nf_forever_laws.proofs.Common.{none-some, same_Some, ℚ, Passing, Network, IsNetwork, rate_at, sets_at, IsThinFlow, Pattern, Flow, Cause, Standing}
use Rattle.nf_forever_laws.proofs.Common.{cause_of_search, flow_of, WellRun, Tail, SeeksOn, FailsOn, at_slack, at_search, at_extend, at_lists, End, Stops}
use Rattle.nf_forever_laws.proofs.Common.{NeverEnds, RunsForever, at_phases, fails, never_ends, goes, Forever, forever_of, IsForever}
use Rattle.nf_model_laws.proofs.Supply.{rate_from-not_negative}
use Rattle.nf_thin_def.specs.Search.{SearchAnswer, Found, OverBudget, PassesAt, NoPattern}
use Rattle.nf_complete_def.specs.Reached.{labels_reached, StopsForNoThinFlow}
use Rattle.nf_complete_laws.proofs.Settled.{none-search}
use Rattle.nf_complete_laws.proofs.Stopped.{AreGoodSets-well, labels_are, Wants, over_other, passed_other, phases_other}
use Rattle.nf_forever_laws.proofs.Run.{well_forever}

module _ (passes : Passing) (net : Network) (good : IsNetwork net) (phases patterns : ℕ) (flows slopes : List ℚ) where
  abbrev NoneAt : Standing → Type 0
  NoneAt s = IsThinFlow net (sets_at net s.labels) (rate_at net s.time) flows slopes → ⊥

  no_answer : (s : Standing) (phase : ℕ) (a : SearchAnswer) → SeeksOn passes net patterns s a
      → cause_of_search (suc s.made) patterns a ≡ Some (Cause.NoPattern phase) → WellRun net s → NoneAt s
  no_answer s phase (Found place pattern f l) k h well thin = none-some _ h
  no_answer s phase OverBudget k h well thin = over_other (suc s.made) patterns phase (same_Some _ _ h)
  no_answer s phase (PassesAt place at) k h well thin = passed_other (suc s.made) (Some place) at phase (same_Some _ _ h)
  no_answer s phase NoPattern k h well thin =
      none-search passes net (sets_at net s.labels) (rate_at net s.time) k.base patterns flows slopes (AreGoodSets-well net good s well)
      (rate_from-not_negative net.pieces s.time good.pieces) k.is_search thin

  none_fails : (s : Standing) (c : Cause ℚ) (phase : ℕ) → Wants c phase → WellRun net s → FailsOn passes net patterns s c → NoneAt s
  none_fails s _ phase e well (at_slack p h) thin = passed_other _ _ _ phase e
  none_fails s c phase e well (at_search a _ k h) thin = no_answer s phase a k (h ∙ ap (λ (d : Cause ℚ). Some d) e) well thin
  none_fails s _ phase e well (at_extend place pattern f l p k h) thin = passed_other _ _ _ phase e
  none_fails s _ phase e well (at_lists place pattern f l end p k g h) thin = passed_other _ _ _ phase e

  same_cause : (c d : Cause ℚ) → Stops c ≡ Stops d → c ≡ d
  same_cause c d h = cc

  no_tail : (pattern : Pattern) (tail : Tail) (c : Cause ℚ) → NeverEnds pattern tail ≡ Stops c → ⊥
  no_tail pattern tail c h = cc

  none_runs : (s last : Standing) (end : End) (c : Cause ℚ) (phase : ℕ) → end ≡ Stops c → Wants c phase → WellRun net last
      → RunsForever passes net phases patterns s last end → NoneAt last
  none_runs s last end c phase e w well (at_phases h) = absurd (phases_other _ phase (same_cause _ c e ∙ w))
  none_runs s last end c phase e w well (fails {cause = d} may f) = none_fails s d phase (same_cause d c e ∙ w) well f
  none_runs s last end c phase e w well (never_ends {pattern = p} {tail = t} may g) = absurd (no_tail p t c e)
  none_runs s last end c phase e w well (goes {new = t} may g rest) = none_runs t last end c phase e w well rest

-- The result of a run with this end.
stop_of : (last : Standing) (end : End) (phase : ℕ) → (forever_of last end).stop ≡ Some (Cause.NoPattern phase) → end ≡ Stops (Cause.NoPattern phase)
stop_of last (Stops c) phase h = ap Stops (same_Some _ _ h)
stop_of last (NeverEnds pattern tail) phase h = absurd (none-some _ h)

flow_told : (last : Standing) (end : End) → (forever_of last end).flow ≡ flow_of last
flow_told last (Stops c) = refl
flow_told last (NeverEnds pattern tail) = refl

pub forever_stops_for_none : (passes : Passing) (net : Network) (phases patterns : ℕ) (forever : Forever) → IsNetwork net
    → IsForever passes net phases patterns forever → StopsForNoThinFlow net forever.stop forever.flow
forever_stops_for_none passes net phases patterns forever good f phase h flows slopes =
    let well : WellRun net f.last = well_forever passes net good phases patterns f.last f.end f.run in
    let none = none_runs passes net good phases patterns flows slopes f.run.first f.last f.end (Cause.NoPattern phase) phase
    (stop_of f.last f.end phase (ap (λ (w : Forever). w.stop) (sym f.forever_is) ∙ h)) refl well f.run.runs in
    subst (λ (w : Forever). IsThinFlow net (sets_at net (labels_reached net w.flow)) (rate_at net w.flow.reached) flows slopes → ⊥) (sym f.forever_is)
    (subst (λ (w : Flow). IsThinFlow net (sets_at net (labels_reached net w)) (rate_at net w.reached) flows slopes → ⊥) (sym (flow_told f.last f.end))
    (subst (λ (l : List ℚ). IsThinFlow net (sets_at net l) (rate_at net f.last.time) flows slopes → ⊥) (sym (labels_are net good f.last well)) none))
