-- A run that continues a restored state stays an equilibrium, and changes no value up to where it began.
use Rattle.std.proofs.Common.{◌≡◌, ℕ, ◌<◌, List, Option, ⊎_elim, sym, ap, subst, refl, ◌∙◌, Result, Ok, Err}
use Rattle.nf_resume_laws.proofs.Common.{ℚ, 0ℚ, ◌≤ℚ◌, ◌<ℚ◌, ≤ℚ_of_lt, ≤ℚ_antisymm, lt_or_le_ℚ, Passing, number_at, Point, Within, value, Network, IsNetwork}
use Rattle.nf_resume_laws.proofs.Common.{Flow, label, Equilibrium, Standing, Bounds, Goes, flow_of, standing_after, then_ok, EndsAtItsLabels, Steps}
use Rattle.nf_resume_laws.proofs.Common.{continues, begins, RunsOn, at_horizon, at_phases, fails, steps, ≤ℚ_refl, ≤ℚ_trans, Checked, at_part, ◌>>=◌, at}
use Rattle.nf_resume_laws.proofs.Common.{CurvesGoOn, IsPhase-some, WellRun, WellRun-step, Restart, Stands, cut_flow, after_check, GoesOnFrom}
use Rattle.nf_resume_laws.proofs.Common.{IsResumedReport}
use Rattle.nf_frac_def.specs.declared.Part.TheVariants.{Curve}
use Rattle.nf_frac_def.specs.declared.PassedAt.{PassedAt}
use Rattle.nf_net_def.specs.declared.Cause.{Cause}
use Rattle.nf_net_def.specs.Report.{Report}
use Rattle.nf_check_def.specs.declared.Answer.{Answer}
use Rattle.nf_check_def.specs.declared.Answer.TheVariants.{Yes, No}
use Rattle.nf_check_def.specs.CheckList.{check_list}
use Rattle.nf_phase_laws.specs.DescriptionCurves.{DescriptionCurvesGoOn}
use Rattle.nf_phase_laws.specs.CurveRun.{curves_of}
use Rattle.nf_phase_laws.proofs.Goes.{curves_go, description_goes}
use Rattle.nf_phase_laws.proofs.Run.{parts_of, IsPhase-goes, Equilibrium-well}
use Rattle.nf_resume_def.specs.Resuming.{restart_list, resume_list}
use Rattle.nf_resume_laws.proofs.CutFlow.{IsCutFlow, cut_flow-is}
use Rattle.nf_resume_laws.proofs.Restarted.{Equilibrium-cut, GoesOnFrom-cut, EndsAtItsLabels-cut}
use Rattle.nf_phase_equilibrium_laws.proofs.RestoredRun.{well_from, flow_from}

-- ---- one phase
module _ (passes : Passing) (net : Network) (good : IsNetwork net) (bounds : Bounds) where
  abbrev next_of : (s t : Standing) → Goes passes net bounds.horizon bounds.patterns s t → Standing
  next_of s t g = standing_after net s g.pattern g.slopes g.step

  go_of : (s t : Standing) (g : Goes passes net bounds.horizon bounds.patterns s t) → WellRun net s
      → CurvesGoOn net (curves_of (flow_of s)).inflows (curves_of (flow_of s)).labels s.time g.step.length (number_at g.flows) (number_at g.slopes)
      (curves_of (flow_of (next_of s t g))).inflows (curves_of (flow_of (next_of s t g))).labels
  go_of s t g well =
      let first = g.finds.search.is_search.answers in
      curves_go passes net good bounds.horizon s g.pattern g.flows g.slopes g.step well g.finds.below
      (g.finds.search.is_search.is_listing.listed g.place g.pattern first.has_place) first.solution.solves first.solution.meets (parts_of passes net good bounds s t g well) g.is_length

  describe_of : (s t : Standing) (g : Goes passes net bounds.horizon bounds.patterns s t) → WellRun net s
      → DescriptionCurvesGoOn net (at (curves_of (flow_of s)).labels) (at (curves_of (flow_of (next_of s t g))).labels) (curves_of (flow_of s)).outflows
      (curves_of (flow_of s)).queues s.time g.step.length
      (number_at g.flows) (number_at g.slopes) (curves_of (flow_of (next_of s t g))).outflows (curves_of (flow_of (next_of s t g))).queues
  describe_of s t g well =
      let first = g.finds.search.is_search.answers in
      description_goes passes net good bounds.horizon s g.pattern g.flows g.slopes g.step well g.finds.below
      (g.finds.search.is_search.is_listing.listed g.place g.pattern first.has_place) first.solution.solves first.solution.meets (parts_of passes net good bounds s t g well) g.is_length

  values-kept : (s t : Standing) (g : Goes passes net bounds.horizon bounds.patterns s t) → WellRun net s
      → GoesOnFrom net (flow_of s) (flow_of (standing_after net s g.pattern g.slopes g.step))
  values-kept s t g well = record {
    reached = subst (λ (x : ℚ). s.time ≤ℚ x) (ap (λ (n : Standing). n.time) g.new_is)
        (≤ℚ_of_lt _ _ (IsPhase-some net bounds.horizon (s.time, s.labels) (t.time, t.labels) (IsPhase-goes passes net good bounds s t g well)));
    labels = λ v departure h w. ((go_of s t g well).labels_go v h).before departure w;
    inflows = λ e link time p w. ⊎_elim
        (λ (m : 0ℚ <ℚ number_at g.slopes link.tail). ((go_of s t g well).inflows_go e link p m).before time w)
        (λ (m : number_at g.slopes link.tail ≤ℚ 0ℚ). ap (λ (l : List Point). value l time) ((go_of s t g well).inflows_stay e link p (still link.tail m)))
        (lt_or_le_ℚ 0ℚ (number_at g.slopes link.tail));
    outflows = λ e link time p w. ⊎_elim
        (λ (m : 0ℚ <ℚ number_at g.slopes link.head). ((describe_of s t g well).outflows_go e link p m).before time w)
        (λ (m : number_at g.slopes link.head ≤ℚ 0ℚ). ap (λ (l : List Point). value l time) ((describe_of s t g well).outflows_stay e link p (still link.head m)))
        (lt_or_le_ℚ 0ℚ (number_at g.slopes link.head));
    queues = λ e link time p w. ⊎_elim
        (λ (m : 0ℚ <ℚ number_at g.slopes link.tail). ((describe_of s t g well).queues_go e link p m).before time w)
        (λ (m : number_at g.slopes link.tail ≤ℚ 0ℚ). ap (λ (l : List Point). value l time) ((describe_of s t g well).queues_stay e link p (still link.tail m)))
        (lt_or_le_ℚ 0ℚ (number_at g.slopes link.tail));
  }
    where
      still : (v : ℕ) → number_at g.slopes v ≤ℚ 0ℚ → number_at g.slopes v ≡ 0ℚ
      still v m = ≤ℚ_antisymm _ _ m (g.finds.search.is_search.answers.solution.meets.no_negative_slope v)

  GoesOnFrom-goes : (s t : Standing) → Goes passes net bounds.horizon bounds.patterns s t → WellRun net s → GoesOnFrom net (flow_of s) (flow_of t)
  GoesOnFrom-goes s t g well = subst (λ (n : Standing). GoesOnFrom net (flow_of s) (flow_of n)) (sym g.new_is) (values-kept s t g well)

  GoesOnFrom-refl : (f : Flow) → GoesOnFrom net f f
  GoesOnFrom-refl f = record { reached = ≤ℚ_refl f.reached; labels = λ v t h w. refl; inflows = λ e link t p w. refl; outflows = λ e link t p w. refl; queues = λ e link t p w. refl }

  -- From one flow to the next, if the labels of the intermediate flow never fall.
  GoesOnFrom-trans : (old mid new : Flow) → 0ℚ ≤ℚ old.reached → ((v : ℕ) (s t : ℚ) → v < net.nodes → 0ℚ ≤ℚ s → s ≤ℚ t → t ≤ℚ mid.reached → label mid v s ≤ℚ label mid v t)
      → GoesOnFrom net old mid → GoesOnFrom net mid new → GoesOnFrom net old new
  GoesOnFrom-trans old mid new nn rises f g = record {
    reached = ≤ℚ_trans _ _ _ f.reached g.reached;
    labels = λ v t h w. g.labels v t h (w.0, ≤ℚ_trans _ _ _ w.1 f.reached) ∙ f.labels v t h w;
    inflows = λ e link t p w. g.inflows e link t p (longer link.tail t (good.tails e link p) w) ∙ f.inflows e link t p w;
    outflows = λ e link t p w. g.outflows e link t p (longer link.head t (good.heads e link p) w) ∙ f.outflows e link t p w;
    queues = λ e link t p w. g.queues e link t p (longer link.tail t (good.tails e link p) w) ∙ f.queues e link t p w;
  }
    where
      longer : (v : ℕ) (t : ℚ) → v < net.nodes → Within 0ℚ (label old v old.reached) t → Within 0ℚ (label mid v mid.reached) t
      longer v t h w = (
        w.0,
        ≤ℚ_trans _ _ _ (subst (λ (x : ℚ). t ≤ℚ x) (sym (f.labels v old.reached h (nn, ≤ℚ_refl old.reached))) w.1)
            (rises v old.reached mid.reached h nn f.reached (≤ℚ_refl mid.reached)),
      )

  -- ---- phase by phase
  record Gone (s t : Standing) : Type 0 where
    pub well : WellRun net t
    pub goes : GoesOnFrom net (flow_of s) (flow_of t)

  gone-step : (s t : Standing) → Steps passes net bounds.horizon bounds.patterns s t → WellRun net s → Gone s t
  gone-step s t step w = record { well = WellRun-step passes net good bounds s t w step; goes = goes_step s t step w }
    where
      goes_step : (s t : Standing) → Steps passes net bounds.horizon bounds.patterns s t → WellRun net s → GoesOnFrom net (flow_of s) (flow_of t)
      goes_step s _ (continues {t = t} c g) w = GoesOnFrom-goes s t g w
      goes_step s t (begins c g) w = GoesOnFrom-goes s t g w

  gone-runs : (s last : Standing) (stop : Option (Cause ℚ)) → RunsOn passes net bounds s last stop → WellRun net s → Gone s last
  gone-runs s last stop (at_horizon e) w = record { well = w; goes = GoesOnFrom-refl (flow_of s) }
  gone-runs s last stop (at_phases below e) w = record { well = w; goes = GoesOnFrom-refl (flow_of s) }
  gone-runs s last stop (fails may f) w = record { well = w; goes = GoesOnFrom-refl (flow_of s) }
  gone-runs s last stop (steps {new = t} may step rest) w =
      let one : Gone s t = gone-step s t step w in
      let more : Gone t last = gone-runs t last stop rest one.well in
      record { well = more.well; goes = GoesOnFrom-trans (flow_of s) (flow_of t) (flow_of last) w.grow.stands.holds.begun one.well.grow.stands.holds.label_rises one.goes more.goes }

  -- ---- the report of the run
  record Restarted (old : Flow) (s : Standing) : Type 0 where
    pub well : WellRun net s
    pub goes : GoesOnFrom net old (flow_of s)

  restarted : (report : Report) (s : Standing) → Equilibrium net report.flow → restart_list passes net report ≡ Ok s → Restarted report.flow s
  unfolding restart_list
  restarted report s is e =
      let a = then_ok (cut_flow passes net report.flow) _ s e in
      let cut : IsCutFlow net report.flow a.between = cut_flow-is passes net report.flow a.between good is a.first in
      let now : Equilibrium net a.between = Equilibrium-cut net report.flow a.between good is cut in
      let ends : EndsAtItsLabels net a.between = EndsAtItsLabels-cut net report.flow a.between good is cut in
      record {
        well = well_from passes net good a.between report.last s now ends a.next;
        goes = subst (λ (f : Flow). GoesOnFrom net report.flow f) (sym (flow_from passes net good a.between report.last s now ends a.next))
            (GoesOnFrom-cut net report.flow a.between good is cut);
      }

-- ---- inversion of the operation sequence
stands-ok : (r : Checked Standing) (s : Standing) → ◌≡◌ {A = Result Restart (PassedAt ℚ)} (at_part Curve r >>= (λ first. Ok (Stands first))) (Ok (Stands s)) → r ≡ Ok s
stands-ok (Ok x) s e = cc
stands-ok (Err p) s e = absurd (cc)

answer-yes : (passes : Passing) (net : Network) (report : Report) (answer : Answer ℕ ℕ ℚ) (s : Standing)
    → after_check passes net report answer ≡ Ok (Stands s) → restart_list passes net report ≡ Ok s
answer-yes passes net report Yes s e = stands-ok (restart_list passes net report) s e
answer-yes passes net report (No rule subject time left right) s e = absurd (cc)

pub list-stands : (passes : Passing) (net : Network) (report : Report) (s : Standing) → resume_list passes net report ≡ Ok (Stands s) → restart_list passes net report ≡ Ok s
unfolding resume_list
list-stands passes net report s e =
    let a = then_ok (check_list passes net report.flow) _ (Stands s) e in
    answer-yes passes net report a.between s a.next

-- The report of a resumed run is an equilibrium, and has the values of the report that it continues.
pub resumed-goes_on : (passes : Passing) (net : Network) (bounds : Bounds) (old : Report) (phases : ℕ) (report : Report) → IsNetwork net
    → Equilibrium net old.flow → IsResumedReport passes net bounds old phases report
    → Equilibrium net report.flow × GoesOnFrom net old.flow report.flow
resumed-goes_on passes net bounds old phases report good is r =
    let first : Restarted passes net good bounds old.flow r.run.first = restarted passes net good bounds old r.run.first is (list-stands passes net old r.run.first r.run.stands) in
    let end : Gone passes net good bounds r.run.first r.last = gone-runs passes net good bounds r.run.first r.last r.stop r.run.runs first.well in
    subst (λ (w : Report). Equilibrium net w.flow × GoesOnFrom net old.flow w.flow) (sym r.report_is) (
      Equilibrium-well net good r.last end.well,
      GoesOnFrom-trans passes net good bounds old.flow (flow_of r.run.first) (flow_of r.last) is.reached first.well.grow.stands.holds.label_rises first.goes end.goes,
    )
