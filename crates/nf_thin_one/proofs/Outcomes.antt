-- What comes of a pattern once its table is solved.
use Rattle.std.proofs.Common.{◌≡◌, ◌+◌, List, length, sym, subst, ◌∙◌, Option, Some, None, Result, Ok, Err, IsOk}
use Rattle.nf_thin_one.proofs.Common.{ℚ, Passing, passes_Q, PassedAt, at_part, Stops, Network, Sets, Pattern, IsSolution, IsSolvable, table_list}
use Rattle.nf_thin_one.proofs.Common.{verdict_list, active_from, equations, slopes_in, link_flows_in, pattern_lists, IsPatternIn, rows-length, is_square}
use Rattle.nf_thin_one.proofs.Common.{Judged, IsJudged}
use Rattle.nf_frac_def.specs.declared.Part.TheVariants as Part
use Rattle.nf_frac_def.specs.declared.Halt.{Halt}
use Rattle.nf_linear_laws.proofs.Solutions.{one_solution}
use Rattle.nf_thin_one.specs.declared.trying.Tried.{Tried}
use Rattle.nf_thin_one.specs.declared.thin.ThinFlow.{ThinFlow}
use Rattle.nf_thin_one.specs.Trying.{AreValuesOf, JudgesFlows, JudgesValues, TriesOne, TriesInto}
use Rattle.nf_thin_one.proofs.Patterns.{table_ok, table_passes, verdict_passes, accepted, refused, not_one}

module _ (passes : Passing) (net : Network) (sets : Sets) (rate : ℚ) (pattern : Pattern) (p : IsPatternIn net sets pattern) where
  abbrev list : Result (Option (List ℚ)) (PassedAt ℚ)
  list = at_part Part.Table (table_list passes (equations net sets rate pattern))

  pub tried_err : (h : Halt ℚ) → Stops (λ q. q) h list → TriesOne passes net sets rate pattern (Err h)
  tried_err (Halt.Passed at) s = table_passes passes net sets rate pattern p at s
  tried_err Halt.Memory s = tt

  pub tried_none : list ≡ Ok None → IsOk (pattern_lists passes net sets rate pattern) × (IsSolvable net sets rate pattern → ⊥)
  tried_none h = not_one passes net sets rate pattern p h

  pub values_count : (values : List ℚ) → AreValuesOf passes net sets rate pattern values → length values ≡ net.nodes + length (active_from 0 sets.active)
  values_count values h =
      (one_solution passes (equations net sets rate pattern) values (is_square net sets rate pattern p.network p.sets_are)
      (table_ok passes net sets rate pattern p (Some values) h)).solves.count
      ∙ rows-length net sets rate pattern p.network p.sets_are

  pub tried_values : (values : List ℚ) → AreValuesOf passes net sets rate pattern values → (r : Result (Option ThinFlow) (Halt ℚ))
      → JudgesValues net pattern (link_flows_in net.nodes sets.active values) (slopes_in net.nodes values)
      (at_part Part.Verdict (verdict_list passes net pattern (slopes_in net.nodes values))) r
      → TriesOne passes net sets rate pattern r
  tried_values values h (Ok (Some thin)) j =
      let found = accepted passes net sets rate pattern p values h j.0 j.4 in (
        j.3,
        found.0,
        subst (λ (l : List ℚ). IsSolution net sets rate pattern thin.flows.items l) (sym j.2)
            (subst (λ (f : List ℚ). IsSolution net sets rate pattern f (slopes_in net.nodes values)) (sym j.1) found.1),
      )
  tried_values values h (Ok None) j = refused passes net sets rate pattern p values h j.0 j.1
  tried_values values h (Err (Halt.Passed at)) j = verdict_passes passes net sets rate pattern p values h at j
  tried_values values h (Err Halt.Memory) j = tt

  -- ---- where flows and slopes are written into slices
  pub into_err : (at : PassedAt ℚ) → Err at ≡ list → pattern_lists passes net sets rate pattern ≡ Err at
  into_err at s = table_passes passes net sets rate pattern p at (sym s)

  into_own : (values : List ℚ) → AreValuesOf passes net sets rate pattern values → (r : Result Tried (PassedAt ℚ))
      → JudgesFlows net pattern (link_flows_in net.nodes sets.active values) (slopes_in net.nodes values)
      (at_part Part.Verdict (verdict_list passes net pattern (slopes_in net.nodes values))) r
      → TriesInto passes net sets rate pattern (link_flows_in net.nodes sets.active values) (slopes_in net.nodes values) r
  into_own values h (Ok Tried.Accepted) j = accepted passes net sets rate pattern p values h j.0 j.1
  into_own values h (Ok Tried.NotSolvable) j = refused passes net sets rate pattern p values h j.0 j.1
  into_own values h (Err at) j = verdict_passes passes net sets rate pattern p values h at j

  pub into_values : (values flows slopes : List ℚ) → AreValuesOf passes net sets rate pattern values → flows ≡ link_flows_in net.nodes sets.active values → slopes ≡ slopes_in net.nodes values
      → (r : Result Tried (PassedAt ℚ)) → JudgesFlows net pattern flows slopes (at_part Part.Verdict (verdict_list passes net pattern slopes)) r
      → TriesInto passes net sets rate pattern flows slopes r
  into_values values flows slopes h f s r j =
      let i = subst (λ (l : List ℚ). JudgesFlows net pattern (link_flows_in net.nodes sets.active values) l (at_part Part.Verdict (verdict_list passes net pattern l)) r) s
      (subst (λ (k : List ℚ). JudgesFlows net pattern k slopes (at_part Part.Verdict (verdict_list passes net pattern slopes)) r) f j) in
      subst (λ (k : List ℚ). TriesInto passes net sets rate pattern k slopes r) (sym f)
      (subst (λ (l : List ℚ). TriesInto passes net sets rate pattern (link_flows_in net.nodes sets.active values) l r) (sym s) (into_own values h r i))

-- what is judged, of lists that are the same
pub judged_so : (net : Network) (pattern : Pattern) (fs gs ss ts : List ℚ) (j k : Judged) → fs ≡ gs → ss ≡ ts → j ≡ k
    → IsOk (at_part Part.Verdict (verdict_list passes_Q net pattern ss)) × IsJudged net pattern fs ss j
    → IsOk (at_part Part.Verdict (verdict_list passes_Q net pattern ts)) × IsJudged net pattern gs ts k
judged_so net pattern fs gs ss ts j k f s e h =
    subst (λ (l : List ℚ). IsOk (at_part Part.Verdict (verdict_list passes_Q net pattern l)) × IsJudged net pattern gs l k) s
    (h.0, subst (λ (l : List ℚ). IsJudged net pattern l ss k) f (subst (λ (x : Judged). IsJudged net pattern fs ss x) e h.1))
