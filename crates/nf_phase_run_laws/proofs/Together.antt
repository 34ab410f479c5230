-- Two runs from the start, to two horizons. Where the first run ends, the second run has the same state and continues, or it has a longer
-- phase than the last one of the first run.
use Rattle.std.proofs.Common.{◌≡◌, List, [], ◌∷◌, length, ◌⊎◌, inl, inr, ⊎_elim, Option, Some, None, sym, ap, subst, refl, ◌∙◌}
use Rattle.nf_phase_run_laws.proofs.Common.{none-some, ℚ, ◌+ℚ◌, ◌-ℚ◌, ◌≤ℚ◌, ◌<ℚ◌, min_ℚ, ≤ℚ_of_lt, ≤ℚ_of_same, ≤ℚ_antisymm, not_both_ℚ, lt_or_le_ℚ}
use Rattle.nf_phase_run_laws.proofs.Common.{min_ℚ_cases, ≤ℚ_refl, ≤ℚ_trans, <_≤_trans, reading_of, lt, eq, linear_lt, linear_eq, min_right, Passing}
use Rattle.nf_phase_run_laws.proofs.Common.{Network, IsNetwork, hops, slacks_of, IsExtension, IsUnending, IsPhaseLength, IsExtension-unique}
use Rattle.nf_phase_run_laws.proofs.Common.{IsExtension-ends, Cause, Standing, Bounds, Goes, Runs, goes, standing_after, IsPhase-some, IsPhaseLength-some}
use Rattle.nf_phase_run_laws.proofs.Common.{WellRun, WellRun-goes, IsPhase-goes, goes_knows, IsOpen, closed-at_extension}
use Rattle.nf_thin_def.specs.PhaseRun.{at_horizon, at_phases, fails}
use Rattle.nf_phase_run_laws.proofs.Once.{first_parts, other_length, same_end}

-- ---- lengths of phases
-- The shorter of two phases ended at its horizon.
pub cut-ends : (net : Network) (slacks slopes : List ℚ) (time a b l m : ℚ) → IsPhaseLength net slacks slopes time a l → IsPhaseLength net slacks slopes time b m → l <ℚ m → l ≡ a -ℚ time
cut-ends net slacks slopes time a b l m (inl p) (inl q) h = ⊎_elim
    (λ (w : (min_ℚ (a -ℚ time) p.0 ≡ a -ℚ time) × (a -ℚ time ≤ℚ p.0)). p.2 ∙ w.0)
    (λ (w : (min_ℚ (a -ℚ time) p.0 ≡ p.0) × (p.0 <ℚ a -ℚ time)). absurd (beyond (p.2 ∙ w.0 ∙ IsExtension-unique net slacks slopes time p.0 q.0 p.1 q.1) (at_most (b -ℚ time) q.0 m q.2)))
    (min_ℚ_cases (a -ℚ time) p.0)
  where
    at_most : (x y m : ℚ) → m ≡ min_ℚ x y → m ≤ℚ y
    at_most x y m e = subst (λ (z : ℚ). z ≤ℚ y) (sym e) (min_right x y)

    beyond : l ≡ q.0 → m ≤ℚ q.0 → ⊥
    beyond e k = not_both_ℚ _ _ (subst (λ (z : ℚ). z <ℚ m) e h) k
cut-ends net slacks slopes time a b l m (inl p) (inr q) h = absurd (IsExtension-ends net slacks slopes time p.0 p.1 q.0)
cut-ends net slacks slopes time a b l m (inr p) q h = p.1

ends_there : (t a l : ℚ) → l ≡ a -ℚ t → t +ℚ l ≡ a
ends_there t a l e = linear_eq (t ∷ a ∷ l ∷ []) (eq e ∷ []) (search reading_of) tt tt

longer_ends : (t l m : ℚ) → l <ℚ m → t +ℚ l <ℚ t +ℚ m
longer_ends t l m h = linear_lt (t ∷ l ∷ m ∷ []) (lt h ∷ []) (search reading_of) tt

pub some_cause : (c : Cause ℚ) (o : Option (Cause ℚ)) → o ≡ Some c → o ≡ None → ⊥
some_cause c o e f = none-some c (sym f ∙ e)

module _ (passes : Passing) (net : Network) (good : IsNetwork net) where
  abbrev pub Knows : Standing → Type 0
  Knows s = length s.last ≡ length net.links

  pub later-goes : (a : Bounds) (s t : Standing) → Goes passes net a.horizon a.patterns s t → WellRun net s → s.time <ℚ t.time
  later-goes a s t g well = IsPhase-some net a.horizon (s.time, s.labels) (t.time, t.labels) (IsPhase-goes passes net good a s t g well)

  rises-runs : (a : Bounds) (s last : Standing) (stop : Option (Cause ℚ)) → Runs passes net a s last stop → WellRun net s → s.time ≤ℚ last.time
  rises-runs a s last stop (at_horizon e) well = ≤ℚ_refl s.time
  rises-runs a s last stop (at_phases below e) well = ≤ℚ_refl s.time
  rises-runs a s last stop (fails may f) well = ≤ℚ_refl s.time
  rises-runs a s last stop (goes {new = t} may g rest) well =
      ≤ℚ_trans _ _ _ (≤ℚ_of_lt _ _ (later-goes a s t g well)) (rises-runs a t last stop rest (WellRun-goes passes net good a s t g well))

  -- At its horizon a run has ended.
  ended : (a : Bounds) (s last : Standing) (stop : Option (Cause ℚ)) → Runs passes net a s last stop → s.time ≡ a.horizon → s ≡ last
  ended a s last stop (at_horizon e) h = refl
  ended a s last stop (at_phases below e) h = refl
  ended a s last stop (fails may f) h = refl
  ended a s last stop (goes may g rest) h = absurd (not_both_ℚ _ _ g.finds.below (≤ℚ_of_same _ _ (sym h)))

  -- The run is at the end of a phase, or at a horizon.
  abbrev pub Closed : Bounds → Standing → Type 0
  Closed b s = (¬ IsOpen net s) ⊎ (s.time ≡ b.horizon)

  pub record Comes (b : Bounds) (last end : Standing) : Type 0 where
    pub well : WellRun net last
    pub knows : Knows last
    pub closed : Closed b last
    pub runs : Runs passes net b last end None

  pub record CutShort (a b : Bounds) (last end : Standing) : Type 0 where
    pub before : Standing
    pub after : Standing
    pub well : WellRun net before
    pub knows : Knows before
    pub goes : Goes passes net a.horizon a.patterns before last
    pub whole : Goes passes net b.horizon b.patterns before after
    pub short : goes.step.length <ℚ whole.step.length
    pub runs : Runs passes net b after end None

  module _ (a b : Bounds) (last end : Standing) (within : last.time ≤ℚ b.horizon) where
    abbrev Meets : Type 0
    Meets = Comes b last end ⊎ CutShort a b last end

    -- Two phases from one run state.
    module _ (s t u : Standing) (stop : Option (Cause ℚ)) (well : WellRun net s) (knows : Knows s) (g : Goes passes net a.horizon a.patterns s t)
        (h : Goes passes net b.horizon b.patterns s u)
        (rest : Runs passes net a t last stop) (rest' : Runs passes net b u end None) where
      abbrev slacks : List ℚ
      slacks = slacks_of (hops net) s.labels

      long : IsPhaseLength net slacks g.slopes s.time b.horizon h.step.length
      long = other_length passes net good a b s t u well knows g h

      time_is : t.time ≡ s.time +ℚ g.step.length
      time_is = ap (λ (x : Standing). x.time) g.new_is

      shorter : g.step.length <ℚ h.step.length → Meets
      shorter k =
          let at : t.time ≡ a.horizon = time_is ∙ ends_there s.time a.horizon g.step.length
          (cut-ends net slacks g.slopes s.time a.horizon b.horizon g.step.length h.step.length g.is_length long k) in
          let same : t ≡ last = ended a t last stop rest at in
          inr (by_last last same)
        where
          by_last : (x : Standing) → t ≡ x → CutShort a b x end
          by_last x e = subst (λ (y : Standing). CutShort a b y end) e (record { before = s; after = u; well = well; knows = knows; goes = g; whole = h; short = k; runs = rest' })

      not_longer : h.step.length <ℚ g.step.length → ⊥
      not_longer k =
          let at : s.time +ℚ h.step.length ≡ b.horizon = ends_there s.time b.horizon h.step.length
          (cut-ends net slacks g.slopes s.time b.horizon a.horizon h.step.length g.step.length long g.is_length k) in
          let beyond : b.horizon <ℚ t.time = subst (λ (x : ℚ). x <ℚ t.time) at
          (subst (λ (x : ℚ). s.time +ℚ h.step.length <ℚ x) (sym time_is) (longer_ends s.time h.step.length g.step.length k)) in
          not_both_ℚ _ _ beyond (≤ℚ_trans _ _ _ (rises-runs a t last stop rest (WellRun-goes passes net good a s t g well)) within)

      closed_after : g.step.length ≡ h.step.length → Closed b t
      closed_after e = ⊎_elim
          (λ (w : (x : ℚ) × IsExtension net slacks g.slopes s.time x × (h.step.length ≡ min_ℚ (b.horizon -ℚ s.time) x)). ⊎_elim
          (λ (v : (min_ℚ (b.horizon -ℚ s.time) w.0 ≡ b.horizon -ℚ s.time) × (b.horizon -ℚ s.time ≤ℚ w.0)). inr (time_is ∙ ends_there s.time b.horizon g.step.length (e ∙ w.2 ∙ v.0)))
          (λ (v : (min_ℚ (b.horizon -ℚ s.time) w.0 ≡ w.0) × (w.0 <ℚ b.horizon -ℚ s.time)). inl (subst (λ (x : Standing). ¬ IsOpen net x) (sym g.new_is) (full w.0 w.1 (e ∙ w.2 ∙ v.0))))
          (min_ℚ_cases (b.horizon -ℚ s.time) w.0))
          (λ (w : IsUnending net slacks g.slopes s.time × (h.step.length ≡ b.horizon -ℚ s.time)). inr (time_is ∙ ends_there s.time b.horizon g.step.length (e ∙ w.1)))
          long
        where
          full : (x : ℚ) → IsExtension net slacks g.slopes s.time x → g.step.length ≡ x → ¬ IsOpen net (standing_after net s g.pattern g.slopes g.step)
          full x extension f = closed-at_extension net good s.labels g.slopes s.time g.step.length g.pattern
              (g.finds.search.is_search.is_listing.listed g.place g.pattern g.finds.search.is_search.answers.has_place).states
              (well.grow.stands.count ∙ sym g.finds.search.is_search.answers.solution.solves.slope_count)
              (≤ℚ_of_lt _ _ (IsPhaseLength-some net slacks g.slopes s.time a.horizon g.step.length g.finds.below g.is_length))
              (standing_after net s g.pattern g.slopes g.step) (first_parts passes net good a b s t u well knows g h).labels refl refl
              (subst (λ (z : ℚ). IsExtension net slacks g.slopes s.time z) (sym f) extension)

  -- The run to the other horizon, compared with the one that ends.
  pub meets : (a b : Bounds) (s last end : Standing) (stop o : Option (Cause ℚ)) → last.time ≤ℚ b.horizon → WellRun net s → Knows s → Closed b s
      → Runs passes net a s last stop → Runs passes net b s end o → o ≡ None
      → Comes b last end ⊎ CutShort a b last end
  meets a b s last end stop o within well knows closed (at_horizon e) other f =
      inl (record { well = well; knows = knows; closed = closed; runs = subst (λ (x : Option (Cause ℚ)). Runs passes net b s end x) f other })
  meets a b s last end stop o within well knows closed (at_phases below e) other f =
      inl (record { well = well; knows = knows; closed = closed; runs = subst (λ (x : Option (Cause ℚ)). Runs passes net b s end x) f other })
  meets a b s last end stop o within well knows closed (fails may c) other f =
      inl (record { well = well; knows = knows; closed = closed; runs = subst (λ (x : Option (Cause ℚ)). Runs passes net b s end x) f other })
  meets a b s last end stop o within well knows closed (goes {new = t} may g rest) (at_horizon e) f =
      absurd (not_both_ℚ _ _ (<_≤_trans _ _ _ (later-goes a s t g well) (rises-runs a t last stop rest (WellRun-goes passes net good a s t g well)))
      (≤ℚ_trans _ _ _ within (≤ℚ_of_same _ _ (sym e))))
  meets a b s last end stop o within well knows closed (goes may g rest) (at_phases below e) f = absurd (some_cause _ _ refl f)
  meets a b s last end stop o within well knows closed (goes may g rest) (fails may' c) f = absurd (some_cause _ _ refl f)
  meets a b s last end stop o within well knows closed (goes {new = t} may g rest) (goes {new = u} may' h rest') f =
      let others : Runs passes net b u end None = subst (λ (x : Option (Cause ℚ)). Runs passes net b u end x) f rest' in
      ⊎_elim
      (λ (k : g.step.length <ℚ h.step.length). shorter a b last end within s t u stop well knows g h rest others k)
      (λ (k : h.step.length ≤ℚ g.step.length). ⊎_elim
      (λ (l : h.step.length <ℚ g.step.length). absurd (not_longer a b last end within s t u stop well knows g h rest others l))
      (λ (l : g.step.length ≤ℚ h.step.length).
      let e : g.step.length ≡ h.step.length = ≤ℚ_antisymm _ _ l k in
      meets a b t last end stop o within (WellRun-goes passes net good a s t g well) (goes_knows passes net a.horizon a.patterns s t g)
      (closed_after a b last end within s t u stop well knows g h rest others e) rest
      (subst (λ (x : Standing). Runs passes net b x end o) (sym (same_end passes net good a b s t u well knows g h e)) rest') f)
      (lt_or_le_ℚ h.step.length g.step.length))
      (lt_or_le_ℚ g.step.length h.step.length)
