-- From the results of the search and of the operation sequences to the phase found, or to the cause for which there is none.
use Rattle.std.proofs.Common.{◌≡◌, ℕ, suc, inl, inr, List, length, sym, ap, subst, refl, ◌∙◌, Option, Some, None, map, Result, Ok, Err, MatchOption, IfErr}
use Rattle.nf_phase.proofs.Common.{IsErrAnd, ℚ, ◌-ℚ◌, ◌<ℚ◌, Passing, Slack, Extend, Advance, Curve, Passed, PassedAt, Halt, Checked, at_part, placed, Stops}
use Rattle.nf_phase.proofs.Common.{◌>>=◌, Hop, Network, hops, slacks_of, sets_at, Pattern, IsExtension, IsUnending, IsPhaseLength, Cause, slack_list}
use Rattle.nf_phase.proofs.Common.{extend_list, Advanced, cut_at, advance_list, LinkStep, curve_list, amount_so_far, SearchAnswer, Found, OverBudget}
use Rattle.nf_phase.proofs.Common.{PassesAt, NoPattern, Standing, PhaseStep, Seeks, IsSearchHere, end_list, SeeksOn, slacks_exact, advanced_exact}
use Rattle.nf_phase.proofs.Common.{StepFault, part_ok, of_halt, of_search, IsFaultOf, FindsNone, at_slack, at_search, ListsPass, at_lists}
use Rattle.nf_frac_def.specs.declared.Part.{Part}
use Rattle.nf_thin_def.specs.PhaseRun.{phase_lists}
use Rattle.nf_thin_def.specs.PhaseRun.{Fails, at_slack as at_slack_below, at_search as at_search_below, at_lists as at_lists_below}
use Rattle.nf_phase_def.specs.ToEnd.{FailsOn, at_slack as at_slack_on, at_search as at_search_on, at_extend as at_extend_on, at_lists as at_lists_on}
use Rattle.nf_thin.specs.declared.fault.SearchFault.{SearchFault}
use Rattle.nf_thin.specs.Searching.{Searches}

-- ---- an operation of a part exceeds its bound
pub part_err : {A : Type 0} (part : Part) (r : Checked A) (at : PassedAt ℚ) → at_part part r ≡ Err at → (p : Passed ℚ) × (r ≡ Err p) × (placed part p ≡ at)
part_err part (Ok x) at h = absurd (cc)
part_err part (Err p) at h = (p, refl, same (placed part p) at h)
  where
    same : {A : Type 0} (x y : PassedAt ℚ) → ◌≡◌ {A = Result A (PassedAt ℚ)} (Err x) (Err y) → x ≡ y
    same x y e = cc

-- ---- the slacks
pub slacks_found : (passes : Passing) (net : Network) (labels slacks : List ℚ) → at_part Slack (slack_list passes (hops net) labels) ≡ Ok slacks
    → (slacks ≡ slacks_of (hops net) labels) × (slack_list passes (hops net) labels ≡ Ok (slacks_of (hops net) labels))
slacks_found passes net labels slacks h =
    let list = part_ok Slack (slack_list passes (hops net) labels) slacks (sym h) in
    let exact = slacks_exact passes (hops net) labels slacks list in
    (exact, list ∙ ap (λ (l : List ℚ). Ok l) exact)

-- ---- the fault with which a call ends
pub by_fault : {A E : Type 0} (r : Result A E) (e : E) (P : E → Type 0) → IsErrAnd r (λ x. x ≡ e) → P e → IfErr r P
by_fault (Ok x) e P h p = tt
by_fault (Err x) e P h p = subst P (sym h) p

-- Causes of one kind are causes of another.
pub stands_as : (C D : Cause ℚ → Type 0) (phase : ℕ) (fault : StepFault) → ((cause : Cause ℚ) → C cause → D cause) → IsFaultOf C phase fault → IsFaultOf D phase fault
stands_as C D phase (StepFault.Search (SearchFault.Budget tried)) f h = f _ h
stands_as C D phase (StepFault.Search (SearchFault.Passed place at)) f h = f _ h
stands_as C D phase (StepFault.Search SearchFault.NoPattern) f h = f _ h
stands_as C D phase (StepFault.Search SearchFault.Memory) f h = h
stands_as C D phase (StepFault.Passed at) f h = f _ h
stands_as C D phase StepFault.Memory f h = tt

-- ---- the search
module _ (passes : Passing) (net : Network) (patterns : ℕ) (s : Standing) where
  abbrev Unfound : StepFault → Type 0
  Unfound = IsFaultOf (FindsNone passes net patterns s) (suc s.made)

  -- ---- the slack list
  slack_cause : (halt : Halt ℚ) → Stops {A = List ℚ} (λ q. q) halt (at_part Slack (slack_list passes (hops net) s.labels)) → Unfound (of_halt halt)
  slack_cause (Halt.Passed at) h =
      let p = part_err Slack (slack_list passes (hops net) s.labels) at h in
      subst (λ (at : PassedAt ℚ). FindsNone passes net patterns s (Cause.Passed (suc s.made) None at)) p.2 (at_slack p.0 p.1)
  slack_cause Halt.Memory h = tt

  same_slacks : (hs : List Hop) (labels : List ℚ) → hs ≡ hops net → labels ≡ s.labels → slack_list passes hs labels ≡ slack_list passes (hops net) s.labels
  same_slacks hs labels e f = ap (λ (h : List Hop). slack_list passes h labels) e ∙ ap (slack_list passes (hops net)) f

  pub slacks_cause : (hs : List Hop) (labels : List ℚ) → hs ≡ hops net → labels ≡ s.labels → (halt : Halt ℚ)
      → Stops {A = List ℚ} (λ q. q) halt (at_part Slack (slack_list passes hs labels)) → Unfound (of_halt halt)
  slacks_cause hs labels e f halt h = slack_cause halt (subst (λ (r : Checked (List ℚ)). Stops {A = List ℚ} (λ q. q) halt (at_part Slack r)) (same_slacks hs labels e f) h)

  pub slacks_made : (hs : List Hop) (labels slacks : List ℚ) → hs ≡ hops net → labels ≡ s.labels → at_part Slack (slack_list passes hs labels) ≡ Ok slacks
      → (slacks ≡ slacks_of (hops net) s.labels) × (slack_list passes (hops net) s.labels ≡ Ok (slacks_of (hops net) s.labels))
  slacks_made hs labels slacks e f h = slacks_found passes net s.labels slacks (ap (λ (r : Checked (List ℚ)). at_part Slack r) (sym (same_slacks hs labels e f)) ∙ h)

  -- ---- the patterns
  module _ (slacks : slack_list passes (hops net) s.labels ≡ Ok (slacks_of (hops net) s.labels)) (horizon : ℚ) where
    pub seeks_here : (a : SearchAnswer) → IsSearchHere passes net horizon patterns s a → SeeksOn passes net patterns s a
    seeks_here a h = record { slacks = slacks; base = h.base; is_base = h.is_base; is_search = h.is_search }

    pub search_cause : (fault : SearchFault) → Searches (IsSearchHere passes net horizon patterns s) patterns (Err fault) → Unfound (of_search fault)
    search_cause (SearchFault.Budget tried) h = at_search OverBudget _ (seeks_here OverBudget h.1) (ap (λ (n : ℕ). Some (Cause.Patterns (suc s.made) n)) (sym h.0))
    search_cause (SearchFault.Passed place at) h = at_search (PassesAt place at) _ (seeks_here (PassesAt place at) h) refl
    search_cause SearchFault.NoPattern h = at_search NoPattern _ (seeks_here NoPattern h) refl
    search_cause SearchFault.Memory h = tt

  -- ---- with a horizon and without one
  pub seeks_below : (horizon : ℚ) (a : SearchAnswer) → s.time <ℚ horizon → SeeksOn passes net patterns s a → Seeks passes net horizon patterns s a
  seeks_below horizon a below h = record { below = below; slacks = h.slacks; search = record { base = h.base; is_base = h.is_base; is_search = h.is_search } }

  pub none_below : (horizon : ℚ) → s.time <ℚ horizon → (cause : Cause ℚ) → FindsNone passes net patterns s cause → Fails passes net horizon patterns s cause
  none_below horizon below cause (at_slack p h) = at_slack_below p below h
  none_below horizon below cause (at_search a _ h e) = at_search_below a cause (seeks_below horizon a below h) e

  pub none_on : (cause : Cause ℚ) → FindsNone passes net patterns s cause → FailsOn passes net patterns s cause
  none_on cause (at_slack p h) = at_slack_on p h
  none_on cause (at_search a _ h e) = at_search_on a cause h e

  module _ (place : ℕ) (pattern : Pattern) (flows slopes : List ℚ) (seeks : SeeksOn passes net patterns s (Found place pattern flows slopes)) where
    pub lists_below : (horizon : ℚ) → s.time <ℚ horizon → (cause : Cause ℚ) → ListsPass passes net horizon s pattern flows slopes cause → Fails passes net horizon patterns s cause
    lists_below horizon below cause (at_lists p h) = at_lists_below place pattern flows slopes p (seeks_below horizon _ below seeks) h

    pub extend_on : (p : Passed ℚ) → end_list passes net (slacks_of (hops net) s.labels) slopes s.time ≡ Err p
        → FailsOn passes net patterns s (Cause.Passed (suc s.made) None (placed Extend p))
    extend_on p h = at_extend_on place pattern flows slopes p seeks h

    pub lists_on : (end : ℚ) → end_list passes net (slacks_of (hops net) s.labels) slopes s.time ≡ Ok (Some end) → (cause : Cause ℚ)
        → ListsPass passes net end s pattern flows slopes cause
        → FailsOn passes net patterns s cause
    lists_on end ends cause (at_lists p h) = at_lists_on place pattern flows slopes end p seeks ends h

-- ---- the lists of extend, advance and curve
module _ (passes : Passing) (net : Network) (horizon : ℚ) (s : Standing) (pattern : Pattern) (flows slopes : List ℚ) where
  abbrev Stopped : StepFault → Type 0
  Stopped = IsFaultOf (ListsPass passes net horizon s pattern flows slopes) (suc s.made)

  abbrev extend : Result (Option ℚ) (PassedAt ℚ)
  extend = at_part Extend (extend_list passes net (slacks_of (hops net) s.labels) slopes s.time)

  abbrev advance : Option ℚ → Result Advanced (PassedAt ℚ)
  advance extension = at_part Advance (advance_list passes horizon s.time extension s.labels slopes)

  abbrev curve : Advanced → Result (List LinkStep) (PassedAt ℚ)
  curve end = at_part Curve (curve_list passes net (sets_at net s.labels) pattern end.length flows slopes end.labels (map amount_so_far s.link_curves))

  abbrev from_curve : Advanced → List LinkStep → Result PhaseStep (PassedAt ℚ)
  from_curve end links = Ok (record { length = end.length; labels = end.labels; links = links })

  abbrev from_advance : Advanced → Result PhaseStep (PassedAt ℚ)
  from_advance end = curve end >>= from_curve end

  abbrev from_extend : Option ℚ → Result PhaseStep (PassedAt ℚ)
  from_extend extension = advance extension >>= from_advance

  whole : phase_lists passes net horizon s pattern flows slopes ≡ (extend >>= from_extend)
  unfolding phase_lists
  whole = refl

  then_same : {A B E : Type 0} (r q : Result A E) (f : A → Result B E) → r ≡ q → (r >>= f) ≡ (q >>= f)
  then_same {A = A} {E = E} r q f h = ap (λ (w : Result A E). w >>= f) h

  stopped_at : (at : PassedAt ℚ) → phase_lists passes net horizon s pattern flows slopes ≡ Err at → Stopped (of_halt (Halt.Passed at))
  stopped_at at h = at_lists at h

  pub extend_cause : (at : PassedAt ℚ) → extend ≡ Err at → Stopped (StepFault.Passed at)
  extend_cause at h = at_lists at (whole ∙ then_same extend (Err at) from_extend h)

  module _ (extension : Option ℚ) (extended : extend ≡ Ok extension) where
    to_advance : phase_lists passes net horizon s pattern flows slopes ≡ from_extend extension
    to_advance = whole ∙ then_same extend (Ok extension) from_extend extended

    pub advance_cause : (halt : Halt ℚ) → Stops {A = Advanced} (λ q. q) halt (advance extension) → Stopped (of_halt halt)
    advance_cause (Halt.Passed at) h = stopped_at at (to_advance ∙ then_same (advance extension) (Err at) from_advance h)
    advance_cause Halt.Memory h = tt

    module _ (end : Advanced) (advanced : advance extension ≡ Ok end) where
      to_curve : phase_lists passes net horizon s pattern flows slopes ≡ from_advance end
      to_curve = to_advance ∙ then_same (advance extension) (Ok end) from_advance advanced

      pub curve_cause : (halt : Halt ℚ) → Stops {A = List LinkStep} (λ q. q) halt (curve end) → Stopped (of_halt halt)
      curve_cause (Halt.Passed at) h = stopped_at at (to_curve ∙ then_same (curve end) (Err at) (from_curve end) h)
      curve_cause Halt.Memory h = tt

      pub lists_made : (links : List LinkStep) → curve end ≡ Ok links → phase_lists passes net horizon s pattern flows slopes ≡ Ok
          (record { length = end.length; labels = end.labels; links = links })
      lists_made links h = to_curve ∙ then_same (curve end) (Ok links) (from_curve end) h

-- ---- the length of the phase
module _ (passes : Passing) (net : Network) (slacks labels slopes : List ℚ) (time horizon : ℚ) where
  cut_is : (extension : Option ℚ) (length : ℚ) → MatchOption extension (IsUnending net slacks slopes time) (IsExtension net slacks slopes time)
      → length ≡ cut_at (horizon -ℚ time) extension
      → IsPhaseLength net slacks slopes time horizon length
  cut_is None length h e = inr (h, e)
  cut_is (Some extension) length h e = inl (extension, h, e)

  pub phase_length : (extension : Option ℚ) (end : Advanced) → length slopes ≡ length labels
      → MatchOption extension (IsUnending net slacks slopes time) (IsExtension net slacks slopes time)
      → at_part Advance (advance_list passes horizon time extension labels slopes) ≡ Ok end → IsPhaseLength net slacks slopes time horizon end.length
  phase_length extension end count h list = cut_is extension end.length h (advanced_exact passes horizon time extension labels slopes end count (part_ok Advance _ end (sym list))).0
