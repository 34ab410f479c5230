-- A resumed run has a unique end: each phase, and each cause for which there is none, follows from the run state.
use Rattle.std.proofs.Common.{◌≡◌, ℕ, length, sym, ap, ◌∙◌, subst, Option, Ok}
use Rattle.nf_phase_run_laws.proofs.Common.{ℚ, ◌<ℚ◌, Passing, each, Network, Cause, Report, Standing, Bounds, Fails, report_of, one_phase, goes_or_fails}
use Rattle.nf_phase_run_laws.proofs.Common.{goes_knows, StepsTo, horizon_met, phases_made, none_made, one_made, same_end, same_Ok, then_ok, IsResumedReport}
use Rattle.nf_phase_run_laws.proofs.Common.{list-stands, growing, Stands, cut_flow, with_last, Steps, continues, begins, RunsOn, at_horizon, at_phases}
use Rattle.nf_phase_run_laws.proofs.Common.{fails, steps}
use Rattle.nf_phase_def.specs.Restoring.{restore_list}
use Rattle.nf_resume_def.specs.Resuming.{restart_list}

-- ---- one more phase
module _ (passes : Passing) (net : Network) (horizon : ℚ) (patterns : ℕ) (s : Standing) where
  module _ (knows : length s.last ≡ length net.links) where
    one_step : (t u : Standing) → Steps passes net horizon patterns s t → Steps passes net horizon patterns s u → t ≡ u
    one_step _ _ (continues {t = t} c g) (continues {t = u} d h) = ap (with_last s.last) (one_phase passes net horizon patterns s knows t u g h)
    one_step _ _ (continues c g) (begins d h) = absurd (d c)
    one_step _ _ (begins c g) (continues d h) = absurd (c d)
    one_step t u (begins c g) (begins d h) = one_phase passes net horizon patterns s knows t u g h

    steps_or_fails : (t : Standing) (c : Cause ℚ) → Steps passes net horizon patterns s t → Fails passes net horizon patterns s c → ⊥
    steps_or_fails _ c (continues {t = t} d g) f = goes_or_fails passes net horizon patterns s knows t c g f
    steps_or_fails t c (begins d g) f = goes_or_fails passes net horizon patterns s knows t c g f

    -- The last pattern still has an entry for each link.
    step_knows : (t : Standing) → Steps passes net horizon patterns s t → length t.last ≡ length net.links
    step_knows _ (continues c g) = knows
    step_knows t (begins c g) = goes_knows passes net horizon patterns s t g

  step_below : (t : Standing) → Steps passes net horizon patterns s t → s.time <ℚ horizon
  step_below _ (continues c g) = g.finds.below
  step_below t (begins c g) = g.finds.below

-- ---- the unique end
module _ (passes : Passing) (net : Network) (bounds : Bounds) where
  abbrev Makes : Standing → Standing → Type 0
  Makes = Steps passes net bounds.horizon bounds.patterns

  steps_to : (s l : Standing) (o : Option (Cause ℚ)) → RunsOn passes net bounds s l o → StepsTo passes net bounds Makes s l o
  steps_to s l o (at_horizon e) = horizon_met e
  steps_to s l o (at_phases below e) = phases_made below e
  steps_to s l o (fails may f) = none_made may f
  steps_to s l o (steps may g rest) = one_made may g (steps_to _ l o rest)

  one_end : (s l m : Standing) (o r : Option (Cause ℚ)) → length s.last ≡ length net.links → RunsOn passes net bounds s l o → RunsOn passes net bounds s m r → (l ≡ m) × (o ≡ r)
  one_end s l m o r knows h k = same_end passes net bounds Makes (record {
    one = λ s t u knows. one_step passes net bounds.horizon bounds.patterns s knows t u;
    below = λ s t g. step_below passes net bounds.horizon bounds.patterns s t g;
    or_fails = λ s t c knows. steps_or_fails passes net bounds.horizon bounds.patterns s knows t c;
    knows = λ s t knows. step_knows passes net bounds.horizon bounds.patterns s knows t;
  }) s l m o r knows (steps_to s l o h) (steps_to s m r k)

-- ---- the unique report
restored_last : (passes : Passing) (net : Network) (report : Report) (s : Standing) → restart_list passes net report ≡ Ok s → s.last ≡ report.last
unfolding restart_list restore_list
restored_last passes net report s e =
    let a = then_ok (cut_flow passes net report.flow) _ s e in
    let b = then_ok (each (growing passes) a.between.labels) _ s a.next in
    let c = then_ok (each (growing passes) a.between.queues) _ s b.next in
    sym (ap (λ (x : Standing). x.last) (same_Ok _ _ c.next))

same_stands : (s t : Standing) → Stands s ≡ Stands t → s ≡ t
same_stands s t e = cc

pub one_resumed : (passes : Passing) (net : Network) (bounds : Bounds) (old : Report) (phases others : ℕ) (report other : Report) → length old.last ≡ length net.links
    → IsResumedReport passes net bounds old phases report → IsResumedReport passes net bounds old others other → (phases ≡ others) × (report ≡ other)
one_resumed passes net bounds old phases others report other knows h k =
    let first : h.run.first ≡ k.run.first = same_stands h.run.first k.run.first (same_Ok _ _ (sym h.run.stands ∙ k.run.stands)) in
    let states : length k.run.first.last ≡ length net.links =
    ap length (restored_last passes net old k.run.first (list-stands passes net old k.run.first k.run.stands)) ∙ knows in
    let end = one_end passes net bounds k.run.first h.last k.last h.stop k.stop states
    (subst (λ (s : Standing). RunsOn passes net bounds s h.last h.stop) first h.run.runs) k.run.runs in (
      sym h.made ∙ ap (λ (s : Standing). s.made) end.0 ∙ k.made,
      h.report_is ∙ ap (λ (s : Standing). report_of bounds.horizon s h.stop) end.0 ∙ ap (report_of bounds.horizon k.last) end.1 ∙ sym k.report_is,
    )
