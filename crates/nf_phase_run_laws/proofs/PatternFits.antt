-- The lists of a pattern: its equations are fractions, and so are its flows and slopes.
use Rattle.std.proofs.Common.{◌≡◌, ℕ, List, [], ◌∷◌, Bool, true, false, refl, subst, if◌then◌else◌, ◌==◌, not, Option, Some, None, Result, Ok, Err, IsOk}
use Rattle.std.proofs.Common.{map, filter, drop, slice_get, unwrap_or}
use Rattle.nf_phase_run_laws.proofs.Common.{AllByRecursion, range_with_len, enumerate_from, flat_map, ℚ, 0ℚ, 1ℚ, neg_ℚ, Product, passes_Q, checked, at_part}
use Rattle.nf_phase_run_laws.proofs.Common.{◌>>=◌, number_at, Link, Network, Sets, Pattern, IsSolution, IsFraction, IsFractionOrNone, every_append, Table}
use Rattle.nf_phase_run_laws.proofs.Common.{Verdict, Passed, State, table_list, Unknown, SlopeOf, FlowOn, unknowns, row, source_factor, leaves_less_enters}
use Rattle.nf_phase_run_laws.proofs.Common.{node_factor, node_row, fills_factor, link_factor, link_rows, slopes_in, onto_links, link_flows_in, Solved}
use Rattle.nf_phase_run_laws.proofs.Common.{after_table, IsPatternIn, SolvesAlone}
use Rattle.nf_model.specs.declared.State.TheVariants.{Tight, Full, Zero}
use Rattle.nf_thin_def.specs.Equations.{equations}
use Rattle.nf_thin_def.specs.Verdict.{bound_on, bound_of, verdict_list}
use Rattle.nf_thin_def.specs.Accepted.{pattern_lists}
use Rattle.nf_thin_equation_laws.proofs.Table.{solves_alone, solves_not_alone}
use Rattle.nf_phase_run_laws.proofs.Lists.{all_take, all_drop, all_numbered, all_map, all_flat}
use Rattle.nf_phase_run_laws.proofs.Fractions.{AreFractions, either, zero_fraction, one_fraction, flag_fraction, gap_fraction, opposite_fraction}
use Rattle.nf_phase_run_laws.proofs.Fractions.{number_fraction, IsFractionLink, HasFractions, capacity_fraction}
use Rattle.nf_phase_run_laws.proofs.Fits.{Fits, AreOperands, AreOperandsAt, ok_fits, then_fits, each_fits, part_fits, one}
use Rattle.nf_phase_run_laws.proofs.TableFits.{AreFractionRows, OrNone, table_fits}

-- ---- the rows of the table
row_of_fractions : (unknown : List Unknown) (factor : Unknown → ℚ) (right : ℚ) → ((u : Unknown) → IsFraction (factor u)) → IsFraction right → AreFractions (row unknown factor right)
row_of_fractions unknown factor right h k = every_append IsFraction (map factor unknown) (right ∷ []) (all_map IsFraction factor h unknown) (k, tt)

source_fraction : (source : ℕ) (u : Unknown) → IsFraction (source_factor source u)
source_fraction source (SlopeOf v) = flag_fraction (v == source)
source_fraction source (FlowOn e) = zero_fraction

leaves_fraction : (link : Option Link) (v : ℕ) → IsFraction (leaves_less_enters link v)
leaves_fraction None v = zero_fraction
leaves_fraction (Some link) v = gap_fraction (link.tail == v) (link.head == v)

node_fraction : (net : Network) (v : ℕ) (u : Unknown) → IsFraction (node_factor net v u)
node_fraction net v (SlopeOf w) = zero_fraction
node_fraction net v (FlowOn e) = leaves_fraction (slice_get net.links e) v

module _ (e : ℕ) (link : Link) (h : IsFractionLink link) where
  fills_fraction : (u : Unknown) → IsFraction (fills_factor e link u)
  fills_fraction (SlopeOf v) =
      either IsFraction (v == link.head) (neg_ℚ (unwrap_or link.capacity 0ℚ)) 0ℚ (opposite_fraction (unwrap_or link.capacity 0ℚ) (capacity_fraction link.capacity h.1)) zero_fraction
  fills_fraction (FlowOn f) = flag_fraction (f == e)

  link_fraction : (state : Option State) (u : Unknown) → IsFraction (link_factor e link state u)
  link_fraction (Some Tight) (SlopeOf v) = gap_fraction (v == link.head) (v == link.tail)
  link_fraction (Some Tight) (FlowOn f) = zero_fraction
  link_fraction (Some Full) u = fills_fraction u
  link_fraction (Some Zero) (SlopeOf v) = zero_fraction
  link_fraction (Some Zero) (FlowOn f) = flag_fraction (f == e)
  link_fraction None u = fills_fraction u

module _ (net : Network) (has : HasFractions net) (sets : Sets) (rate : ℚ) (is_rate : IsFraction rate) (pattern : Pattern) where
  node_row_fractions : (v : ℕ) → AreFractions (node_row net sets rate v)
  node_row_fractions v = row_of_fractions (unknowns net sets) (node_factor net v) (if v == net.source then rate else 0ℚ) (node_fraction net v)
      (either IsFraction (v == net.source) rate 0ℚ is_rate zero_fraction)

  link_row_fractions : (numbered : ℕ × Link) → IsFractionLink numbered.1 → AreFractionRows (link_rows net sets pattern numbered)
  link_row_fractions (e, link) h =
      let state : Option State = unwrap_or (slice_get pattern e) None in
      either AreFractionRows (unwrap_or (slice_get sets.active e) false) (row (unknowns net sets) (link_factor e link state) 0ℚ ∷ []) []
      (row_of_fractions (unknowns net sets) (link_factor e link state) 0ℚ (link_fraction e link h state) zero_fraction, tt) tt

  pub equation_fractions : AreFractionRows (equations net sets rate pattern)
  unfolding equations
  equation_fractions = (
    row_of_fractions (unknowns net sets) (source_factor net.source) 1ℚ (source_fraction net.source) one_fraction,
    every_append AreFractions (map (node_row net sets rate) (filter (λ v. not (v == net.sink)) (range_with_len 0 net.nodes)))
        (flat_map (link_rows net sets pattern) (enumerate_from 0 net.links))
        (all_map AreFractions (node_row net sets rate) node_row_fractions (filter (λ v. not (v == net.sink)) (range_with_len 0 net.nodes)))
        (all_flat AreFractions (λ (numbered : ℕ × Link). IsFractionLink numbered.1) (link_rows net sets pattern) link_row_fractions
        (enumerate_from 0 net.links) (all_numbered IsFractionLink 0 net.links has.links)),
  )

  -- ---- the verdict list
  bound_fits : (state : Option State) (capacity : Option ℚ) (head_slope : ℚ) → IsFractionOrNone capacity → IsFraction head_slope
      → Fits AreOperands IsFractionOrNone (bound_on passes_Q state capacity head_slope)
  bound_fits (Some Tight) (Some capacity) head_slope h k =
      then_fits (checked passes_Q Product capacity head_slope) _ (one Product capacity head_slope h k) (λ bound l. ok_fits AreOperands IsFractionOrNone (Some bound) l)
  bound_fits (Some Tight) None head_slope h k = ok_fits AreOperands IsFractionOrNone None tt
  bound_fits (Some Full) capacity head_slope h k = ok_fits AreOperands IsFractionOrNone None tt
  bound_fits (Some Zero) capacity head_slope h k = ok_fits AreOperands IsFractionOrNone None tt
  bound_fits None capacity head_slope h k = ok_fits AreOperands IsFractionOrNone None tt

  verdict_fits : (slopes : List ℚ) → AreFractions slopes → Fits AreOperands (AllByRecursion IsFractionOrNone) (verdict_list passes_Q net pattern slopes)
  unfolding verdict_list
  verdict_fits slopes all = each_fits AreOperands (λ (numbered : ℕ × Link). IsFractionLink numbered.1) IsFractionOrNone (bound_of passes_Q pattern slopes)
      (λ numbered h. bound_fits (unwrap_or (slice_get pattern numbered.0) None) numbered.1.capacity (number_at slopes numbered.1.head) h.1 (number_fraction slopes numbered.1.head all))
      (enumerate_from 0 net.links) (all_numbered IsFractionLink 0 net.links has.links)

  -- ---- both
  onto_fractions : (active : List Bool) (flows : List ℚ) → AreFractions flows → AreFractions (onto_links active flows)
  onto_fractions [] flows h = tt
  onto_fractions (true ∷ active) [] h = (zero_fraction, onto_fractions active [] h)
  onto_fractions (true ∷ active) (x ∷ flows) h = (h.0, onto_fractions active flows h.1)
  onto_fractions (false ∷ active) [] h = (zero_fraction, onto_fractions active [] h)
  onto_fractions (false ∷ active) (x ∷ flows) h = (zero_fraction, onto_fractions active (x ∷ flows) h)

  slopes_fit : (values : List ℚ) → AreFractions values → AreFractions (slopes_in net.nodes values)
  slopes_fit values h = all_take IsFraction net.nodes values h

  flows_fit : (values : List ℚ) → AreFractions values → AreFractions (link_flows_in net.nodes sets.active values)
  flows_fit values h = onto_fractions sets.active (drop net.nodes values) (all_drop IsFraction net.nodes values h)

  abbrev AreSolved : Solved → Type 0
  AreSolved solved = AreFractions solved.flows × AreFractions solved.slopes

  after_fits : (values : Option (List ℚ)) → OrNone AreFractions values → Fits AreOperandsAt (OrNone AreSolved) (after_table passes_Q net sets rate pattern values)
  after_fits None h = ok_fits AreOperandsAt (OrNone AreSolved) None tt
  after_fits (Some values) h =
      let slopes : List ℚ = slopes_in net.nodes values in
      then_fits (at_part Verdict (verdict_list passes_Q net pattern slopes)) _ (part_fits Verdict (verdict_list passes_Q net pattern slopes) (verdict_fits slopes (slopes_fit values h)))
      (λ bounds k. ok_fits AreOperandsAt (OrNone AreSolved) (Some (record {
        flows = link_flows_in net.nodes sets.active values;
        slopes = slopes;
        bounds =
            bounds;
      })) (flows_fit values h, slopes_fit values h))

  pub pattern_fits : Fits AreOperandsAt (OrNone AreSolved) (pattern_lists passes_Q net sets rate pattern)
  unfolding pattern_lists
  pattern_fits = then_fits (at_part Table (table_list passes_Q (equations net sets rate pattern))) _
      (part_fits Table (table_list passes_Q (equations net sets rate pattern)) (table_fits (equations net sets rate pattern) equation_fractions)) after_fits

  -- ---- the flows and slopes that alone solve a pattern of which no operation passes
  module _ (flows slopes : List ℚ) (is_in : IsPatternIn net sets pattern) (solution : IsSolution net sets rate pattern flows slopes) where
    alone : SolvesAlone net sets rate pattern flows slopes
    alone = record { solves = solution.solves; only = solution.only }

    by_values : (values : Option (List ℚ)) → table_list passes_Q (equations net sets rate pattern) ≡ Ok values → OrNone AreFractions values → AreFractions flows × AreFractions slopes
    by_values None e h = absurd (solves_not_alone net sets rate pattern is_in passes_Q flows slopes e alone)
    by_values (Some values) e h =
        let same = solution.only (link_flows_in net.nodes sets.active values) (slopes_in net.nodes values) (solves_alone net sets rate pattern is_in passes_Q values e).solves in
        (subst AreFractions same.0 (flows_fit values h), subst AreFractions same.1 (slopes_fit values h))

    by_table : (r : Result (Option (List ℚ)) (Passed ℚ)) → table_list passes_Q (equations net sets rate pattern) ≡ r
        → IsOk (at_part Table r >>= after_table passes_Q net sets rate pattern) → AreFractions flows × AreFractions slopes
    by_table (Ok values) e ok = by_values values e ((table_fits (equations net sets rate pattern) equation_fractions).value values e)
    by_table (Err p) e ok = absurd (cc)

    pub solution_fractions : IsOk (pattern_lists passes_Q net sets rate pattern) → AreFractions flows × AreFractions slopes
    unfolding pattern_lists
    solution_fractions ok = by_table (table_list passes_Q (equations net sets rate pattern)) refl ok
