-- A phase run has one end: the run state determines each phase, and each cause for which none is made.
use Rattle.std.proofs.Common.{◌≡◌, ℕ, suc, ◌<◌, List, length, refl, sym, ap, ◌∙◌, subst, arith, Option, Some, None, Result, Ok, map}
use Rattle.nf_thin_laws.proofs.Common.{none-some, same_Some, length-map, length-replicate, ℚ, ◌<ℚ◌, le_ℚ, 0ℚ, <ℚ_irrefl, Passing, placed, PassedAt, Network}
use Rattle.nf_thin_laws.proofs.Common.{hop_of, hops, rate_at, slack, slacks_of, sets_at, Pattern, IsListedIn, AreStartLabels, SearchAnswer, Found, IsSearch}
use Rattle.nf_thin_laws.proofs.Common.{Standing, Bounds, PhaseStep, IsStart, standing_after, cause_of_search, Seeks, phase_lists, Goes, Fails, at_slack}
use Rattle.nf_thin_laws.proofs.Common.{at_search, at_lists, Runs, at_horizon, at_phases, fails, goes, IsPhaseRun, report_of, IsRunReport, Ok_not_Err}
use Rattle.nf_thin_laws.proofs.Common.{one_Err, Slack, Passed, Cause, first_label_curve, first_curves}
use Rattle.nf_net_def.specs.Report.{Report}
use Rattle.nf_thin_laws.proofs.Bases.{one_base}
use Rattle.nf_thin_laws.proofs.Searches.{one_answer}
use Rattle.nf_thin_laws.proofs.Agree.{AreStartLabels-unique}

-- ---- the start
module _ (net : Network) where
  same_standing : (s t : Standing) → s.time ≡ t.time → s.labels ≡ t.labels → s.label_curves ≡ t.label_curves → s.link_curves ≡ t.link_curves → s.made ≡ t.made → s.last ≡ t.last → s ≡ t
  same_standing s t a b c d e f = λ i. record { time = a i; labels = b i; label_curves = c i; link_curves = d i; made = e i; last = f i }

  pub one_start : (s t : Standing) → IsStart net s → IsStart net t → s ≡ t
  one_start s t h k =
      let labels : s.labels ≡ t.labels = AreStartLabels-unique net s.labels t.labels h.labels k.labels in
      same_standing s t (h.time ∙ sym k.time) labels
      (h.label_curves ∙ (ap (λ (l : List ℚ). map first_label_curve l) labels ∙ sym k.label_curves))
      (h.link_curves ∙ (ap (λ (l : List ℚ). map (first_curves l) net.links) labels ∙ sym k.link_curves))
      (h.made ∙ sym k.made) (h.last ∙ sym k.last)

  -- ---- patterns have an entry for each link
  pub length-sets : (labels : List ℚ) → length (sets_at net labels).active ≡ length net.links
  length-sets labels = length-map (slacks_of (hops net) labels) (le_ℚ 0ℚ) ∙ (length-map (hops net) (slack labels) ∙ length-map net.links hop_of)

  pub start_knows : (s : Standing) → IsStart net s → length s.last ≡ length net.links
  start_knows s h = ap length h.last ∙ length-replicate (length net.links) None

-- ---- one phase
module _ (passes : Passing) (net : Network) (horizon : ℚ) (patterns : ℕ) where
  module _ (s : Standing) (knows : length s.last ≡ length net.links) where
    one_search : (a b : SearchAnswer) → Seeks passes net horizon patterns s a → Seeks passes net horizon patterns s b → a ≡ b
    one_search a b h k =
        let bases : h.search.base ≡ k.search.base = one_base (hops net) (sets_at net s.labels) s.last (knows ∙ sym (length-sets net s.labels)) _ _ h.search.is_base k.search.is_base in
        one_answer passes net (sets_at net s.labels) (rate_at net s.time) k.search.base patterns a b
        (subst (λ (base : Pattern). IsSearch passes net (sets_at net s.labels) (rate_at net s.time) base patterns a) bases h.search.is_search)
        k.search.is_search

    same_lists : (a b : Pattern) (f g k l : List ℚ) → a ≡ b → f ≡ g → k ≡ l → phase_lists passes net horizon s a f k ≡ phase_lists passes net horizon s b g l
    same_lists a b f g k l p q r = cc

    same_after : (a b : Pattern) (k l : List ℚ) (x y : PhaseStep) → a ≡ b → k ≡ l → x ≡ y → standing_after net s a k x ≡ standing_after net s b l y
    same_after a b k l x y p q r =
        ap (λ (w : Pattern). standing_after net s w k x) p ∙ (ap (λ (w : List ℚ). standing_after net s b w x) q ∙ ap (standing_after net s b l) r)

    pub one_phase : (t u : Standing) → Goes passes net horizon patterns s t → Goes passes net horizon patterns s u → t ≡ u
    one_phase t u h k =
        let e = one_search (Found h.place h.pattern h.flows h.slopes) (Found k.place k.pattern k.flows k.slopes) h.finds k.finds in
        let pattern : h.pattern ≡ k.pattern = cc in
        let flows : h.flows ≡ k.flows = cc in
        let slopes : h.slopes ≡ k.slopes = cc in
        let lists = same_lists h.pattern k.pattern h.flows k.flows h.slopes k.slopes pattern flows slopes in
        let found : ◌≡◌ {A = Result PhaseStep (PassedAt ℚ)} (Ok h.step) (Ok k.step) = sym h.lists ∙ (lists ∙ k.lists) in
        let step : h.step ≡ k.step = cc in
        h.new_is ∙ (same_after h.pattern k.pattern h.slopes k.slopes h.step k.step pattern slopes step ∙ sym k.new_is)

    -- ---- one cause
    search_finds : (a : SearchAnswer) (c : Cause ℚ) (p : ℕ) (b : Pattern) (f k : List ℚ) → Seeks passes net horizon patterns s a → cause_of_search (suc s.made) patterns a ≡ Some c
        → Seeks passes net horizon patterns s (Found p b f k) → ⊥
    search_finds a c p b f k h e i = none-some c (ap (cause_of_search (suc s.made) patterns) (sym (one_search a (Found p b f k) h i)) ∙ e)

    pub one_cause : (c d : Cause ℚ) → Fails passes net horizon patterns s c → Fails passes net horizon patterns s d → c ≡ d
    one_cause c d (at_slack p below e) (at_slack q below' f) =
        ap (λ (w : Passed ℚ). Cause.Passed (suc s.made) None (placed Slack w)) (one_Err _ p q e f)
    one_cause c d (at_slack p below e) (at_search b d' k f) = absurd (Ok_not_Err _ _ p k.slacks e)
    one_cause c d (at_slack p below e) (at_lists q b g l r k f) = absurd (Ok_not_Err _ _ p k.slacks e)
    one_cause c d (at_search a c' h e) (at_slack q below f) = absurd (Ok_not_Err _ _ q h.slacks f)
    one_cause c d (at_search a c' h e) (at_search b d' k f) =
        same_Some c d (sym e ∙ (ap (cause_of_search (suc s.made) patterns) (one_search a b h k) ∙ f))
    one_cause c d (at_search a c' h e) (at_lists q b g l r k f) = absurd (search_finds a c q b g l h e k)
    one_cause c d (at_lists p a f k r h e) (at_slack q below g) = absurd (Ok_not_Err _ _ q h.slacks g)
    one_cause c d (at_lists p a f k r h e) (at_search b d' i g) = absurd (search_finds b d p a f k i g h)
    one_cause c d (at_lists p a f k r h e) (at_lists q b g l t i j) =
        let found = one_search (Found p a f k) (Found q b g l) h i in
        let pattern : a ≡ b = cc in
        let flows : f ≡ g = cc in
        let slopes : k ≡ l = cc in
        ap (λ (w : PassedAt ℚ). Cause.Passed (suc s.made) None w) (one_Err (phase_lists passes net horizon s b g l) r t (sym (same_lists a b f g k l pattern flows slopes) ∙ e) j)

    pub goes_or_fails : (t : Standing) (c : Cause ℚ) → Goes passes net horizon patterns s t → Fails passes net horizon patterns s c → ⊥
    goes_or_fails t c h (at_slack q below f) = Ok_not_Err _ _ q h.finds.slacks f
    goes_or_fails t c h (at_search b c' k f) = search_finds b c h.place h.pattern h.flows h.slopes k f h.finds
    goes_or_fails t c h (at_lists q b g l r k f) =
        let found = one_search (Found h.place h.pattern h.flows h.slopes) (Found q b g l) h.finds k in
        let pattern : h.pattern ≡ b = cc in
        let flows : h.flows ≡ g = cc in
        let slopes : h.slopes ≡ l = cc in
        Ok_not_Err (phase_lists passes net horizon s b g l) h.step r (sym (same_lists h.pattern b h.flows g h.slopes l pattern flows slopes) ∙ h.lists) f

  pub fails_below : (s : Standing) (c : Cause ℚ) → Fails passes net horizon patterns s c → s.time <ℚ horizon
  fails_below s c (at_slack q below f) = below
  fails_below s c (at_search b d k f) = k.below
  fails_below s c (at_lists q b g l r k f) = k.below

  pub goes_knows : (s t : Standing) → Goes passes net horizon patterns s t → length t.last ≡ length net.links
  goes_knows s t h =
      let search = h.finds.search.is_search in
      let listed : IsListedIn net (sets_at net s.labels) h.pattern = search.is_listing.listed h.place h.pattern search.answers.has_place in
      ap (λ (w : Standing). length w.last) h.new_is ∙ (listed.states.count ∙ length-sets net s.labels)

-- ---- a run by steps of any kind, with the ends of a phase run
module _ (passes : Passing) (net : Network) (bounds : Bounds) (Step : Standing → Standing → Type 0) where
  pub data StepsTo : Standing → Standing → Option (Cause ℚ) → Type 0 where
    horizon_met : {s : Standing} → s.time ≡ bounds.horizon → StepsTo s s None
    phases_made : {s : Standing} → s.time <ℚ bounds.horizon → s.made ≡ bounds.phases → StepsTo s s (Some (Cause.Phases s.made))
    none_made : {s : Standing} {cause : Cause ℚ} → s.made < bounds.phases → Fails passes net bounds.horizon bounds.patterns s cause → StepsTo s s (Some cause)
    one_made : {s new last : Standing} {stop : Option (Cause ℚ)} → s.made < bounds.phases → Step s new → StepsTo new last stop → StepsTo s last stop

  -- The run state determines the step, and excludes a cause if there is a step.
  pub record Determined : Type 0 where
    pub one : (s t u : Standing) → length s.last ≡ length net.links → Step s t → Step s u → t ≡ u
    pub below : (s t : Standing) → Step s t → s.time <ℚ bounds.horizon
    pub or_fails : (s t : Standing) (c : Cause ℚ) → length s.last ≡ length net.links → Step s t → Fails passes net bounds.horizon bounds.patterns s c → ⊥
    pub knows : (s t : Standing) → length s.last ≡ length net.links → Step s t → length t.last ≡ length net.links

  not_both : (s : Standing) → s.time ≡ bounds.horizon → s.time <ℚ bounds.horizon → ⊥
  not_both s e below = <ℚ_irrefl bounds.horizon (subst (λ (t : ℚ). t <ℚ bounds.horizon) e below)

  pub same_end : Determined → (s l m : Standing) (o r : Option (Cause ℚ)) → length s.last ≡ length net.links → StepsTo s l o → StepsTo s m r → (l ≡ m) × (o ≡ r)
  same_end d s l m o r knows (horizon_met e) (horizon_met f) = (refl, refl)
  same_end d s l m o r knows (horizon_met e) (phases_made below f) = absurd (not_both s e below)
  same_end d s l m o r knows (horizon_met e) (none_made may f) = absurd (not_both s e (fails_below passes net bounds.horizon bounds.patterns s _ f))
  same_end d s l m o r knows (horizon_met e) (one_made may g rest) = absurd (not_both s e (d.below s _ g))
  same_end d s l m o r knows (phases_made below e) (horizon_met f) = absurd (not_both s f below)
  same_end d s l m o r knows (phases_made below e) (phases_made below' f) = (refl, refl)
  same_end d s l m o r knows (phases_made below e) (none_made may f) = absurd (omega arith)
  same_end d s l m o r knows (phases_made below e) (one_made may g rest) = absurd (omega arith)
  same_end d s l m o r knows (none_made may f) (horizon_met e) = absurd (not_both s e (fails_below passes net bounds.horizon bounds.patterns s _ f))
  same_end d s l m o r knows (none_made may f) (phases_made below e) = absurd (omega arith)
  same_end d s l m o r knows (none_made may f) (none_made may' g) = (refl, ap Some (one_cause passes net bounds.horizon bounds.patterns s knows _ _ f g))
  same_end d s l m o r knows (none_made may f) (one_made may' g rest) = absurd (d.or_fails s _ _ knows g f)
  same_end d s l m o r knows (one_made may g rest) (horizon_met e) = absurd (not_both s e (d.below s _ g))
  same_end d s l m o r knows (one_made may g rest) (phases_made below e) = absurd (omega arith)
  same_end d s l m o r knows (one_made may g rest) (none_made may' f) = absurd (d.or_fails s _ _ knows g f)
  same_end d s l m o r knows (one_made {new = t} may g rest) (one_made {new = u} may' h other) =
      let same : t ≡ u = d.one s t u knows g h in
      same_end d t l m o r (d.knows s t knows g) rest (subst (λ (w : Standing). StepsTo w m r) (sym same) other)

-- ---- one end
module _ (passes : Passing) (net : Network) (bounds : Bounds) where
  steps_to : (s l : Standing) (o : Option (Cause ℚ)) → Runs passes net bounds s l o → StepsTo passes net bounds (Goes passes net bounds.horizon bounds.patterns) s l o
  steps_to s l o (at_horizon e) = horizon_met e
  steps_to s l o (at_phases below e) = phases_made below e
  steps_to s l o (fails may f) = none_made may f
  steps_to s l o (goes may g rest) = one_made may g (steps_to _ l o rest)

  determined : Determined passes net bounds (Goes passes net bounds.horizon bounds.patterns)
  determined = record {
    one = λ s t u knows. one_phase passes net bounds.horizon bounds.patterns s knows t u;
    below = λ s t g. g.finds.below;
    or_fails = λ s t c knows. goes_or_fails passes net bounds.horizon bounds.patterns s knows t c;
    knows = λ s t knows g. goes_knows passes net bounds.horizon bounds.patterns s t g;
  }

  one_end : (s l m : Standing) (o r : Option (Cause ℚ)) → length s.last ≡ length net.links → Runs passes net bounds s l o → Runs passes net bounds s m r → (l ≡ m) × (o ≡ r)
  one_end s l m o r knows h k = same_end passes net bounds (Goes passes net bounds.horizon bounds.patterns) determined s l m o r knows (steps_to s l o h) (steps_to s m r k)

  pub one_run : (l m : Standing) (o r : Option (Cause ℚ)) → IsPhaseRun passes net bounds l o → IsPhaseRun passes net bounds m r → (l ≡ m) × (o ≡ r)
  one_run l m o r h k =
      let first : h.first ≡ k.first = one_start net h.first k.first h.start k.start in
      one_end k.first l m o r (start_knows net k.first k.start) (subst (λ (w : Standing). Runs passes net bounds w l o) first h.runs) k.runs

pub one_report : (passes : Passing) (net : Network) (bounds : Bounds) (a b : Report) → IsRunReport passes net bounds a → IsRunReport passes net bounds b → a ≡ b
one_report passes net bounds a b h k =
    let end = one_run passes net bounds h.last k.last h.stop k.stop h.run k.run in
    h.report_is ∙ (ap (λ (s : Standing). report_of bounds.horizon s h.stop) end.0 ∙ (ap (report_of bounds.horizon k.last) end.1 ∙ sym k.report_is))
