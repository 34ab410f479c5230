-- Phases from one run state, for any horizon and budget, have the same pattern, flows and slopes. Phases of equal length have the same
-- result.
use Rattle.std.proofs.Common.{◌≡◌, ℕ, ◌+◌, ◌≤◌, List, length, sym, ap, subst, ◌∙◌, arith, Result, Ok, map}
use Rattle.nf_phase_run_laws.proofs.Common.{ℚ, Passing, Network, IsNetwork, hops, rate_at, Sets, slacks_of, sets_at, Pattern, moved, IsPhaseLength}
use Rattle.nf_phase_run_laws.proofs.Common.{LinkStep, curve_list, amount_so_far, Standing, Bounds, PhaseStep, Goes, Seeks, standing_after, length-sets}
use Rattle.nf_phase_run_laws.proofs.Common.{PhaseParts, WellRun, parts_of, IsPhaseLength-unique, Found, IsSearch, one_base}
use Rattle.nf_thin_laws.proofs.Searches.{one_answer}

-- A result of the search with a budget is one with a greater budget.
more_patterns : (passes : Passing) (net : Network) (sets : Sets) (rate : ℚ) (base : Pattern) (fewer more place : ℕ) (pattern : Pattern) (flows slopes : List ℚ) → fewer ≤ more
    → IsSearch passes net sets rate base fewer (Found place pattern flows slopes) → IsSearch passes net sets rate base more (Found place pattern flows slopes)
more_patterns passes net sets rate base fewer more place pattern flows slopes h is = record {
  listing = is.listing;
  is_listing = is.is_listing;
  answers = record {
    within = (let w = is.answers.within in omega arith);
    has_place = is.answers.has_place;
    first = is.answers.first;
    accepted = is.answers.accepted;
    solution = is.answers.solution;
  };
}

-- Two phases that begin in the same way.
pub record Alike (pattern pattern' : Pattern) (flows flows' slopes slopes' : List ℚ) : Type 0 where
  pub pattern_is : pattern ≡ pattern'
  pub flows_are : flows ≡ flows'
  pub slopes_are : slopes ≡ slopes'

alike_of : (place place' : ℕ) (pattern pattern' : Pattern) (flows flows' slopes slopes' : List ℚ)
    → Found place pattern flows slopes ≡ Found place' pattern' flows' slopes' → Alike pattern pattern' flows flows' slopes slopes'
alike_of place place' pattern pattern' flows flows' slopes slopes' e = record { pattern_is = cc; flows_are = cc; slopes_are = cc }

module _ (passes : Passing) (net : Network) (s : Standing) (knows : length s.last ≡ length net.links) where
  pub one_found : (horizon horizon' : ℚ) (patterns patterns' place place' : ℕ) (pattern pattern' : Pattern) (flows flows' slopes slopes' : List ℚ)
      → Seeks passes net horizon patterns s (Found place pattern flows slopes) → Seeks passes net horizon' patterns' s (Found place' pattern' flows' slopes')
      → Alike pattern pattern' flows flows' slopes slopes'
  one_found horizon horizon' patterns patterns' place place' pattern pattern' flows flows' slopes slopes' h k =
      let bases : h.search.base ≡ k.search.base = one_base (hops net) (sets_at net s.labels) s.last (knows ∙ sym (length-sets net s.labels)) _ _ h.search.is_base k.search.is_base in
      alike_of place place' pattern pattern' flows flows' slopes slopes'
      (one_answer passes net (sets_at net s.labels) (rate_at net s.time) k.search.base (patterns + patterns') (Found place pattern flows slopes) (Found place' pattern' flows' slopes')
      (subst (λ (base : Pattern). IsSearch passes net (sets_at net s.labels) (rate_at net s.time) base (patterns + patterns') (Found place pattern flows slopes)) bases
      (more_patterns passes net (sets_at net s.labels) (rate_at net s.time) h.search.base patterns (patterns + patterns') place pattern flows slopes (omega arith) h.search.is_search))
      (more_patterns passes net (sets_at net s.labels) (rate_at net s.time) k.search.base patterns' (patterns + patterns') place' pattern' flows' slopes'
      (omega arith) k.search.is_search))

-- The result of a phase is determined by its length.
same_step : (x y : PhaseStep) → x.length ≡ y.length → x.labels ≡ y.labels → x.links ≡ y.links → x ≡ y
same_step x y e f g = λ i. record { length = e i; labels = f i; links = g i }

same_links : {E : Type 0} (r s : Result (List LinkStep) E) (x y : List LinkStep) → r ≡ s → r ≡ Ok x → s ≡ Ok y → x ≡ y
same_links r s x y e f g = cc

pub one_step : (passes : Passing) (net : Network) (s : Standing) (pattern : Pattern) (flows slopes : List ℚ) (x y : PhaseStep)
    → PhaseParts passes net s pattern flows slopes x → PhaseParts passes net s pattern flows slopes y
    → x.length ≡ y.length → x ≡ y
one_step passes net s pattern flows slopes x y p q e =
    let labels : x.labels ≡ y.labels = p.labels ∙ ap (moved s.labels slopes) e ∙ sym q.labels in
    same_step x y e labels (same_links _ _ x.links y.links
    (ap (λ (l : ℚ). curve_list passes net (sets_at net s.labels) pattern l flows slopes x.labels (map amount_so_far s.link_curves)) e
    ∙ ap (λ (l : List ℚ). curve_list passes net (sets_at net s.labels) pattern y.length flows slopes l (map amount_so_far s.link_curves)) labels)
    p.links q.links)

-- Parts of a phase, stated with the pattern, flows and slopes of an equal phase.
pub parts_alike : (passes : Passing) (net : Network) (s : Standing) (pattern pattern' : Pattern) (flows flows' slopes slopes' : List ℚ) (step : PhaseStep)
    → Alike pattern pattern' flows flows' slopes slopes'
    → PhaseParts passes net s pattern' flows' slopes' step → PhaseParts passes net s pattern flows slopes step
parts_alike passes net s pattern pattern' flows flows' slopes slopes' step a p =
    subst (λ (x : Pattern). PhaseParts passes net s x flows slopes step) (sym a.pattern_is)
    (subst (λ (x : List ℚ). PhaseParts passes net s pattern' x slopes step) (sym a.flows_are)
    (subst (λ (x : List ℚ). PhaseParts passes net s pattern' flows' x step) (sym a.slopes_are) p))

pub after_alike : (net : Network) (s : Standing) (pattern pattern' : Pattern) (slopes slopes' : List ℚ) (step step' : PhaseStep) → pattern ≡ pattern' → slopes ≡ slopes' → step ≡ step'
    → standing_after net s pattern slopes step ≡ standing_after net s pattern' slopes' step'
after_alike net s pattern pattern' slopes slopes' step step' p q r =
    ap (λ (x : Pattern). standing_after net s x slopes step) p ∙ ap (λ (x : List ℚ). standing_after net s pattern' x step) q ∙ ap (standing_after net s pattern' slopes') r

-- ---- two phases from one run state
module _ (passes : Passing) (net : Network) (good : IsNetwork net) (a b : Bounds) (s t u : Standing) (well : WellRun net s) (knows : length s.last ≡ length net.links)
    (g : Goes passes net a.horizon a.patterns s t) (h : Goes passes net b.horizon b.patterns s u) where
  pub alike : Alike g.pattern h.pattern g.flows h.flows g.slopes h.slopes
  alike = one_found passes net s knows a.horizon b.horizon a.patterns b.patterns g.place h.place g.pattern h.pattern g.flows h.flows g.slopes h.slopes g.finds h.finds

  pub first_parts : PhaseParts passes net s g.pattern g.flows g.slopes g.step
  first_parts = parts_of passes net good a s t g well

  pub other_parts : PhaseParts passes net s g.pattern g.flows g.slopes h.step
  other_parts = parts_alike passes net s g.pattern h.pattern g.flows h.flows g.slopes h.slopes h.step alike (parts_of passes net good b s u h well)

  pub same_end : g.step.length ≡ h.step.length → t ≡ u
  same_end e = g.new_is
      ∙ after_alike net s g.pattern h.pattern g.slopes h.slopes g.step h.step alike.pattern_is alike.slopes_are
      (one_step passes net s g.pattern g.flows g.slopes g.step h.step first_parts other_parts e)
      ∙ sym h.new_is

  pub other_length : IsPhaseLength net (slacks_of (hops net) s.labels) g.slopes s.time b.horizon h.step.length
  other_length = subst (λ (x : List ℚ). IsPhaseLength net (slacks_of (hops net) s.labels) x s.time b.horizon h.step.length) (sym alike.slopes_are) h.is_length

  -- To the same horizon they have equal length.
  pub same_phase : a.horizon ≡ b.horizon → t ≡ u
  same_phase e = same_end (IsPhaseLength-unique net (slacks_of (hops net) s.labels) g.slopes s.time b.horizon g.step.length h.step.length
      (subst (λ (x : ℚ). IsPhaseLength net (slacks_of (hops net) s.labels) g.slopes s.time x g.step.length) e g.is_length) other_length)
