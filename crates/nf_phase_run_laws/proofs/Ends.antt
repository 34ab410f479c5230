-- The resumed run and the run from the start end in the same way.
use Rattle.std.proofs.Common.{◌≡◌, ℕ, suc, List, [], ◌∷◌, ◌⊎◌, inl, inr, ⊎_elim, Option, None, sym, ap, subst, refl, ◌∙◌, Ok}
use Rattle.nf_phase_run_laws.proofs.Common.{ℚ, ◌+ℚ◌, ◌≤ℚ◌, ◌<ℚ◌, ≤ℚ_of_lt, ≤ℚ_of_same, not_both_ℚ, reading_of, lt, linear_lt, <_≤_trans, Passing, Network}
use Rattle.nf_phase_run_laws.proofs.Common.{IsNetwork, hops, slacks_of, Pattern, Flow, Cause, Report, one_start, goes_knows, start_knows, then_ok, WellRun}
use Rattle.nf_phase_run_laws.proofs.Common.{WellRun-start, WellRun-goes, restore_list, IsResumedReport, closed-at_start, list-stands, with_made}
use Rattle.nf_phase_run_laws.proofs.Common.{NonePassesNext, RestFits, Standing, Bounds, Goes, Runs, goes, IsPhaseRun, IsRunReport, flow_of, report_of}
use Rattle.nf_phase_run_laws.proofs.Common.{ShortRun, ShortRun-start, stands_at, cut_flow, IsPhaseLength-within}
use Rattle.nf_thin_def.specs.PhaseRun.{phase_lists, at_horizon, at_phases, fails}
use Rattle.nf_resume_def.specs.Resuming.{restart_list}
use Rattle.nf_phase_def.specs.Open.{IsOpen, Continues, with_last, continues, begins, RunsOn, at_horizon as ends_on, at_phases as stops_on, fails as fails_on, steps}
use Rattle.nf_phase_run_laws.proofs.Back.{flow-back, standing-back}
use Rattle.nf_phase_run_laws.proofs.Once.{same_phase, other_length}
use Rattle.nf_phase_run_laws.proofs.Rest.{restored, opened, rest-whole}
use Rattle.nf_phase_run_laws.proofs.Together.{some_cause, Knows, Comes, CutShort, meets}

-- ---- run states that differ in the number of phases
made_again : (s t : Standing) (n : ℕ) → t ≡ with_made n s → t ≡ with_made t.made s
made_again s t n e = e ∙ ap (λ (k : ℕ). with_made k s) (sym (ap (λ (x : Standing). x.made) e))

none_left : (n : ℕ) → suc n ≡ 0 → ⊥
none_left n e = cc

module _ (passes : Passing) (net : Network) where
  same_list : (horizon : ℚ) (s : Standing) (n : ℕ) (pattern : Pattern) (flows slopes : List ℚ)
      → phase_lists passes net horizon (with_made n s) pattern flows slopes ≡ phase_lists passes net horizon s pattern flows slopes
  unfolding phase_lists
  same_list horizon s n pattern flows slopes = refl

  -- A phase doesn't depend on the number of phases so far.
  unmade : (horizon : ℚ) (patterns n : ℕ) (s w : Standing) → Goes passes net horizon patterns (with_made n s) w → Goes passes net horizon patterns s (with_made (suc s.made) w)
  unmade horizon patterns n s w k = record {
    place = k.place;
    pattern = k.pattern;
    flows = k.flows;
    slopes = k.slopes;
    finds = record {
      below = k.finds.below;
      slacks = k.finds.slacks;
      search = record { base = k.finds.search.base; is_base = k.finds.search.is_base; is_search = k.finds.search.is_search };
    };
    step = k.step;
    lists = sym (same_list horizon s n k.pattern k.flows k.slopes) ∙ k.lists;
    is_length = k.is_length;
    new_is = ap (with_made (suc s.made)) k.new_is;
  }

  open_before : (n : ℕ) (s : Standing) → IsOpen net (with_made n s) → IsOpen net s
  open_before n s o = record { no_start = o.no_start; apart = o.apart }

  -- Nor do the operation sequences of the search.
  fits_again : (bounds : Bounds) (n : ℕ) (s : Standing) → RestFits passes net bounds s → RestFits passes net bounds (with_made n s)
  unfolding unmade
  fits_again bounds n s fits within new phase = fits (open_before n s within) (with_made (suc s.made) new) (unmade bounds.horizon bounds.patterns n s new phase)

  module _ (good : IsNetwork net) (b r : Bounds) (to : r.horizon ≡ b.horizon) where
    -- From there on both runs have the same phases.
    together : (s end t last : Standing) (o v : Option (Cause ℚ)) (n : ℕ) → WellRun net s → Knows passes net good s → t ≡ with_made n s → (¬ Continues net t) ⊎ (s.time ≡ b.horizon)
        → Runs passes net b s end o → o ≡ None → RunsOn passes net r t last v → v ≡ None → last ≡ with_made last.made end
    together s end t last o v n well knows e closed (at_horizon f) x (ends_on g) y = made_again s t n e
    together s end t last o v n well knows e closed (at_horizon f) x (stops_on below g) y = absurd (some_cause _ _ refl y)
    together s end t last o v n well knows e closed (at_horizon f) x (fails_on may g) y = absurd (some_cause _ _ refl y)
    together s end t last o v n well knows e closed (at_horizon f) x (steps may (continues c k) rest) y =
        absurd (not_both_ℚ _ _ k.finds.below (≤ℚ_of_same _ _ (to ∙ sym f ∙ sym (ap (λ (x : Standing). x.time) e))))
    together s end t last o v n well knows e closed (at_horizon f) x (steps may (begins c k) rest) y =
        absurd (not_both_ℚ _ _ k.finds.below (≤ℚ_of_same _ _ (to ∙ sym f ∙ sym (ap (λ (x : Standing). x.time) e))))
    together s end t last o v n well knows e closed (at_phases below f) x runs y = absurd (some_cause _ _ refl x)
    together s end t last o v n well knows e closed (fails may f) x runs y = absurd (some_cause _ _ refl x)
    together s end t last o v n well knows e closed (goes may g rest) x (ends_on f) y =
        absurd (not_both_ℚ _ _ g.finds.below (≤ℚ_of_same _ _ (sym to ∙ sym f ∙ ap (λ (x : Standing). x.time) e)))
    together s end t last o v n well knows e closed (goes may g rest) x (stops_on below f) y = absurd (some_cause _ _ refl y)
    together s end t last o v n well knows e closed (goes may g rest) x (fails_on may' f) y = absurd (some_cause _ _ refl y)
    together s end t last o v n well knows e closed (goes may g rest) x (steps may' (continues c k) rest') y = ⊎_elim
        (λ (l : ¬ Continues net t). absurd (l c))
        (λ (l : s.time ≡ b.horizon). absurd (not_both_ℚ _ _ g.finds.below (≤ℚ_of_same _ _ (sym l))))
        closed
    together s end t last o v n well knows e closed (goes {new = u} may g rest) x (steps {new = w} may' (begins c k) rest') y =
        let alone : Goes passes net r.horizon r.patterns s (with_made (suc s.made) w) =
        unmade r.horizon r.patterns n s w (subst (λ (z : Standing). Goes passes net r.horizon r.patterns z w) e k) in
        let same : u ≡ with_made (suc s.made) w = same_phase passes net good b r s u (with_made (suc s.made) w) well knows g alone (sym to) in
        together u end w last o v w.made (WellRun-goes passes net good b s u g well) (goes_knows passes net b.horizon b.patterns s u g) (ap (with_made w.made) (sym same))
        (inl (λ d. none_left t.made (sym (ap (λ (z : Standing). z.made) k.new_is) ∙ d.0))) rest x rest' y

    -- A run resumed mid-phase has the remainder of the phase first.
    module _ (a : Bounds) (last end : Standing) (c : CutShort passes net good a b last end) where
      abbrev standing : Standing
      standing = restored passes net good a b c.before last c.after c.well c.knows c.goes c.whole c.short

      sooner : (t l m : ℚ) → l <ℚ m → t +ℚ l <ℚ t +ℚ m
      sooner t l m h = linear_lt (t ∷ l ∷ m ∷ []) (lt h ∷ []) (search reading_of) tt

      not_there : standing.time ≡ r.horizon → ⊥
      not_there e = not_both_ℚ _ _ (<_≤_trans _ _ _ (sooner c.before.time c.goes.step.length c.whole.step.length c.short)
          (IsPhaseLength-within net (slacks_of (hops net) c.before.labels) c.goes.slopes c.before.time b.horizon c.whole.step.length
          (other_length passes net good a b c.before last c.after c.well c.knows c.goes c.whole)))
          (≤ℚ_of_same _ _ (sym (e ∙ to)))

      within : (final : Standing) (v : Option (Cause ℚ)) → RunsOn passes net r standing final v → v ≡ None → NonePassesNext passes net r standing → final ≡ with_made final.made end
      within final v (ends_on e) y none = absurd (not_there e)
      within final v (stops_on below e) y none = absurd (some_cause _ _ refl y)
      within final v (fails_on may e) y none = absurd (some_cause _ _ refl y)
      within final v (steps may (begins d k) rest) y none = absurd (d (refl, opened passes net good a b c.before last c.after c.well c.knows c.goes c.whole c.short))
      within final v (steps may (continues {t = w} d k) rest) y none =
          together c.after end (with_last standing.last w) final None v 1 (WellRun-goes passes net good b c.before c.after c.whole c.well)
          (goes_knows passes net b.horizon b.patterns c.before c.after c.whole)
          (rest-whole passes net good a b c.before last c.after c.well c.knows c.goes c.whole c.short r w k (none w k) to)
          (inl (λ f. none_left 0 (sym (ap (λ (z : Standing). z.made) k.new_is) ∙ f.0))) c.runs refl rest y

-- ---- from a report
module _ (passes : Passing) (net : Network) (good : IsNetwork net) where
  pub run-restored : (bounds : Bounds) (last first : Standing) (stop : Option (Cause ℚ)) → IsPhaseRun passes net bounds last stop
      → restart_list passes net (report_of bounds.horizon last stop) ≡ Ok first
      → first ≡ with_made 0 last
  unfolding restart_list
  run-restored bounds last first stop run e =
      let w : WellRun net last × ShortRun last = stands_at passes net good bounds run.first last stop (WellRun-start net good run.first run.start)
      (ShortRun-start net run.first run.start) run.runs in
      let k = then_ok (cut_flow passes net (flow_of last)) _ first e in
      let flow : k.between ≡ flow_of last = flow-back passes net good last w.0 w.1 k.between k.first in
      standing-back passes net good last w.0 w.1 first (ap (λ (f : Flow). restore_list passes f last.last) (sym flow) ∙ k.next)

  reaches : (r : Bounds) (t last : Standing) (v : Option (Cause ℚ)) → RunsOn passes net r t last v → v ≡ None → t.time ≤ℚ r.horizon
  reaches r t last v (ends_on e) y = ≤ℚ_of_same _ _ e
  reaches r t last v (stops_on below e) y = absurd (some_cause _ _ refl y)
  reaches r t last v (fails_on may e) y = absurd (some_cause _ _ refl y)
  reaches r t last v (steps may (continues c k) rest) y = ≤ℚ_of_lt _ _ k.finds.below
  reaches r t last v (steps may (begins c k) rest) y = ≤ℚ_of_lt _ _ k.finds.below

  module _ (bounds later resumed : Bounds) (to : resumed.horizon ≡ later.horizon) where
    same_end : (old_last end first final : Standing) (stop o v : Option (Cause ℚ)) → IsPhaseRun passes net bounds old_last stop
        → IsPhaseRun passes net later end o → o ≡ None → first ≡ with_made 0 old_last
        → RunsOn passes net resumed first final v → v ≡ None → RestFits passes net resumed first → final ≡ with_made final.made end
    same_end old_last end first final stop o v run whole x is runs y fits =
        let start : run.first ≡ whole.first = one_start net run.first whole.first run.start whole.start in
        let inside : old_last.time ≤ℚ later.horizon = subst (λ (h : ℚ). old_last.time ≤ℚ h) to
        (subst (λ (z : Standing). z.time ≤ℚ resumed.horizon) is (reaches resumed first final v runs y)) in
        ⊎_elim
        (λ (c : Comes passes net good later old_last end).
        together passes net good later resumed to old_last end first final None v 0 c.well c.knows is
        (⊎_elim
        (λ (l : ¬ IsOpen net old_last). inl (λ d. l (open_before passes net 0 old_last (subst (λ (z : Standing). IsOpen net z) is d.1))))
        (λ (l : old_last.time ≡ later.horizon). inr l)
        c.closed) c.runs refl runs y)
        (λ (c : CutShort passes net good bounds later old_last end).
        let here : first ≡ restored passes net good bounds later c.before old_last c.after c.well c.knows c.goes c.whole c.short = is ∙ ap (with_made 0) c.goes.new_is in
        within passes net good later resumed to bounds old_last end c final v (subst (λ (z : Standing). RunsOn passes net resumed z final v) here runs) y
        (subst (λ (z : Standing). RestFits passes net resumed z) here fits (opened passes net good bounds later c.before old_last c.after c.well c.knows c.goes c.whole c.short)))
        (meets passes net good bounds later run.first old_last end stop o inside (WellRun-start net good run.first run.start) (start_knows net run.first run.start)
        (inl (λ d. closed-at_start net run.first good run.start (run.start.made, d))) run.runs (subst (λ (z : Standing). Runs passes net later z end o) (sym start) whole.runs) x)

  pub resumed-solved : (bounds later resumed : Bounds) (old solved report : Report) (phases : ℕ) → (ran : IsRunReport passes net bounds old)
      → IsRunReport passes net later solved → solved.stop ≡ None
      → IsResumedReport passes net resumed old phases report → report.stop ≡ None → resumed.horizon ≡ later.horizon → RestFits passes net resumed ran.last → report ≡ solved
  resumed-solved bounds later resumed old solved report phases run whole done again ended to fits =
      let o : whole.stop ≡ None = sym (ap (λ (w : Report). w.stop) whole.report_is) ∙ done in
      let v : again.stop ≡ None = sym (ap (λ (w : Report). w.stop) again.report_is) ∙ ended in
      let list : restart_list passes net old ≡ Ok again.run.first = list-stands passes net old again.run.first again.run.stands in
      let is : again.run.first ≡ with_made 0 run.last = run-restored bounds run.last again.run.first run.stop run.run (ap (restart_list passes net) (sym run.report_is) ∙ list) in
      let here : RestFits passes net resumed again.run.first = subst (λ (z : Standing). RestFits passes net resumed z) (sym is) (fits_again passes net resumed 0 run.last fits) in
      let end : again.last ≡ with_made again.last.made whole.last = same_end bounds later resumed to run.last whole.last again.run.first again.last run.stop
      whole.stop again.stop run.run whole.run o is again.run.runs v here in
      again.report_is
      ∙ ap (λ (s : Standing). report_of resumed.horizon s again.stop) end
      ∙ ap (λ (h : ℚ). report_of h whole.last again.stop) to
      ∙ ap (report_of later.horizon whole.last) (v ∙ sym o)
      ∙ sym whole.report_is
