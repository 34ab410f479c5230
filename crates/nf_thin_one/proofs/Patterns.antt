-- What is known of a pattern from its table and its verdict.
use Rattle.std.proofs.Common.{◌≡◌, List, refl, sym, ap, subst, ◌∙◌, Option, Some, None, Result, Ok, Err, IsOk}
use Rattle.nf_thin_one.proofs.Common.{ℚ, 0ℚ, not_both_ℚ, Passing, Table, Verdict, PassedAt, Checked, at_part, ◌>>=◌, number_at, Network, Sets, Pattern}
use Rattle.nf_thin_one.proofs.Common.{Meets, IsSolution, IsSolvable, table_list, verdict_list, equations, slopes_in, link_flows_in, after_table, IsAccepted}
use Rattle.nf_thin_one.proofs.Common.{IsPatternIn, SolvesAlone, solves_alone, solves_not_alone, Judged, IsJudged}
use Rattle.nf_thin_def.specs.Accepted.{Solved, pattern_lists}

-- ---- what fails doesn't meet
module _ (net : Network) (pattern : Pattern) (flows slopes : List ℚ) where
  pub node_fails : (v : _) → IsJudged net pattern flows slopes (Judged.FailsNode v) → Meets net pattern flows slopes → ⊥
  node_fails v judged meets = not_both_ℚ (number_at slopes v) 0ℚ judged.negative (meets.no_negative_slope v)

  pub link_fails : (e : _) → IsJudged net pattern flows slopes (Judged.FailsLink e) → Meets net pattern flows slopes → ⊥
  link_fails e judged meets = judged.fails (record { no_negative = meets.no_negative_flow e; inequality = λ link state is_link at. meets.links e link state is_link at })

module _ (passes : Passing) (net : Network) (sets : Sets) (rate : ℚ) (pattern : Pattern) (p : IsPatternIn net sets pattern) where
  abbrev lists : Result (Option Solved) (PassedAt ℚ)
  lists = pattern_lists passes net sets rate pattern

  abbrev table : Checked (Option (List ℚ))
  table = table_list passes (equations net sets rate pattern)

  from_table : (o : Option (List ℚ)) → at_part Table table ≡ Ok o → lists ≡ after_table passes net sets rate pattern o
  unfolding pattern_lists
  from_table o h = ap (λ (r : Result (Option (List ℚ)) (PassedAt ℚ)). r >>= after_table passes net sets rate pattern) h

  pub table_passes : (at : PassedAt ℚ) → at_part Table table ≡ Err at → lists ≡ Err at
  unfolding pattern_lists
  table_passes at h = ap (λ (r : Result (Option (List ℚ)) (PassedAt ℚ)). r >>= after_table passes net sets rate pattern) h

  pub table_ok : (o : Option (List ℚ)) → at_part Table table ≡ Ok o → table ≡ Ok o
  table_ok o h = go table refl h
    where
      same : (x y : Option (List ℚ)) → ◌≡◌ {A = Result (Option (List ℚ)) (PassedAt ℚ)} (Ok x) (Ok y) → x ≡ y
      same x y e = cc

      go : (r : Checked (Option (List ℚ))) → table ≡ r → at_part Table r ≡ Ok o → table ≡ Ok o
      go (Ok x) e k = e ∙ ap (λ (y : Option (List ℚ)). Ok y) (same x o k)
      go (Err q) e k = absurd (cc)

  -- there is none, or more than one, solution
  pub not_one : at_part Table table ≡ Ok None → IsOk lists × (IsSolvable net sets rate pattern → ⊥)
  not_one h = (
    subst IsOk (sym (from_table None h)) refl,
    λ s. solves_not_alone net sets rate pattern p passes s.flows s.slopes (table_ok None h) (record { solves = s.solution.solves; only = s.solution.only }),
  )

  module _ (values : List ℚ) (h : at_part Table table ≡ Ok (Some values)) where
    abbrev flows : List ℚ
    flows = link_flows_in net.nodes sets.active values

    abbrev slopes : List ℚ
    slopes = slopes_in net.nodes values

    alone : SolvesAlone net sets rate pattern flows slopes
    alone = solves_alone net sets rate pattern p passes values (table_ok (Some values) h)

    abbrev with_bounds : Result (List (Option ℚ)) (PassedAt ℚ) → Result (Option Solved) (PassedAt ℚ)
    with_bounds r = r >>= λ bounds. Ok (Some (record { flows = flows; slopes = slopes; bounds = bounds }))

    lists_ok : IsOk (at_part Verdict (verdict_list passes net pattern slopes)) → IsOk lists
    lists_ok ok = subst IsOk (sym (from_table (Some values) h)) (go (at_part Verdict (verdict_list passes net pattern slopes)) ok)
      where
        go : (r : Result (List (Option ℚ)) (PassedAt ℚ)) → IsOk r → IsOk (with_bounds r)
        go (Ok b) k = refl
        go (Err q) k = k

    pub verdict_passes : (at : PassedAt ℚ) → at_part Verdict (verdict_list passes net pattern slopes) ≡ Err at → lists ≡ Err at
    verdict_passes at k = from_table (Some values) h ∙ ap with_bounds k

    pub accepted : IsOk (at_part Verdict (verdict_list passes net pattern slopes)) → Meets net pattern flows slopes
        → IsAccepted passes net sets rate pattern × IsSolution net sets rate pattern flows slopes
    accepted ok meets =
        let solution : IsSolution net sets rate pattern flows slopes = record { solves = alone.solves; only = alone.only; meets = meets } in
        (record { solvable = record { flows = flows; slopes = slopes; solution = solution }; none_passes = lists_ok ok }, solution)

    pub refused : IsOk (at_part Verdict (verdict_list passes net pattern slopes)) → (Meets net pattern flows slopes → ⊥) → IsOk lists × (IsSolvable net sets rate pattern → ⊥)
    refused ok fails = (
      lists_ok ok,
      λ s. (let same = alone.only s.flows s.slopes s.solution.solves in
          fails (subst (λ (l : List ℚ). Meets net pattern flows l) same.1 (subst (λ (f : List ℚ). Meets net pattern f s.slopes) same.0 s.solution.meets))),
    )
