-- A computed example of an extended flow: two links from source to sink, of transit times 1 and 3 and capacity 1, supplied at rate 3. At
-- departure 1 both take 3/2, and the label of the sink has slope 3/2 from there on.
use Rattle.std.specs.Prelude.{◌≡◌, List, [], ◌∷◌, Option, Some, None, Ok, Err, map, pos, refl}
use Rattle.nf_rational.specs.Gcd.{gcd}
use Rattle.nf_rational.specs.Rational.{ℚ, ratio}
use Rattle.nf_rational.specs.Operations.{whole, neg_ℚ, inv_ℚ, ◌+ℚ◌, ◌-ℚ◌, ◌*ℚ◌, ◌/ℚ◌}
use Rattle.nf_rational.specs.Order.{le_ℚ, lt_ℚ, min_ℚ, max_ℚ}
use Rattle.nf_frac_def.specs.Passing.{beyond}
use Rattle.nf_frac_def.specs.Checked.{checked, Checked}
use Rattle.nf_model.specs.Equilibrium.{Trace, Flow}
use Rattle.nf_frac_def.proofs.Examples.{n, in_127_bits, Parts, parts_of}
use Rattle.nf_thin_def.proofs.Examples.{i}
use Rattle.nf_thin_def.proofs.Runs.{points_in, two_links}
use Rattle.nf_thin_def.specs.Extend.{extend_list}
use Rattle.nf_phase_def.specs.ToEnd.{Tail}
use Rattle.nf_phase_def.specs.ToEnd.{end_list}
use Rattle.nf_forever_def.specs.Extended.{extended}

abbrev three_halves : ℚ
three_halves = ratio (pos 3) 2

abbrev end_of : Checked (Option ℚ) → Option (Option Parts)
end_of (Ok None) = Some None
end_of (Ok (Some x)) = Some (Some (parts_of x))
end_of (Err p) = None

-- The first phase ends at 1, where the second link becomes active; the second phase never ends.
first_ends : end_of (end_list in_127_bits two_links (n 0 ∷ (n 0 -ℚ n 2) ∷ []) (n 1 ∷ n 3 ∷ []) (n 0)) ≡ Some (Some (i 1))
unfolding end_list extend_list checked beyond whole ratio gcd neg_ℚ inv_ℚ ◌+ℚ◌ ◌-ℚ◌ ◌*ℚ◌ ◌/ℚ◌ le_ℚ lt_ℚ min_ℚ
first_ends = refl

second_goes_on : end_of (end_list in_127_bits two_links (n 2 ∷ n 0 ∷ []) (n 1 ∷ three_halves ∷ []) (n 1)) ≡ Some None
unfolding end_list extend_list checked beyond whole ratio gcd neg_ℚ inv_ℚ ◌+ℚ◌ ◌-ℚ◌ ◌*ℚ◌ ◌/ℚ◌ le_ℚ lt_ℚ min_ℚ
second_goes_on = refl

abbrev pub flow_to_1 : Flow
flow_to_1 = record {
  reached = n 1;
  labels = ((n 0, n 0) ∷ (n 1, n 1) ∷ []) ∷ ((n 0, n 1) ∷ (n 1, n 4) ∷ []) ∷ [];
  inflows = record { points = (n 0, n 0) ∷ (n 1, n 3) ∷ []; rates = n 3 ∷ [] } ∷ record { points = (n 0, n 0) ∷ (n 1, n 0) ∷ []; rates = n 0 ∷ [] } ∷ [];
  outflows = record { points = (n 0, n 0) ∷ (n 1, n 0) ∷ (n 4, n 3) ∷ []; rates = n 0 ∷ n 1 ∷ [] } ∷ record { points = (n 0, n 0) ∷ (n 4, n 0) ∷ []; rates = n 0 ∷ [] } ∷ [];
  queues = ((n 0, n 0) ∷ (n 1, n 2) ∷ []) ∷ ((n 0, n 0) ∷ (n 1, n 0) ∷ []) ∷ [];
}

abbrev pub tail_from_1 : Tail
tail_from_1 = record { slopes = n 1 ∷ three_halves ∷ []; flows = three_halves ∷ three_halves ∷ [] }

abbrev curves_in : List (List (ℚ × ℚ)) → List (List (Parts × Parts))
curves_in curves = map points_in curves

abbrev traces_in : List Trace → List (List (Parts × Parts) × List Parts)
traces_in traces = map (λ t. (points_in t.points, map parts_of t.rates)) traces

-- Up to departure 4 it is the flow of a run to the horizon 4.
labels_to_4 : curves_in (extended two_links flow_to_1 tail_from_1 (n 4)).labels ≡ ((i 0, i 0) ∷ (i 1, i 1) ∷ (i 4, i 4) ∷ []) ∷ ((i 0, i 1) ∷ (i 1, i 4) ∷ (i 4, (pos 17, 2)) ∷ []) ∷ []
unfolding whole ratio gcd neg_ℚ inv_ℚ ◌+ℚ◌ ◌-ℚ◌ ◌*ℚ◌ ◌/ℚ◌ le_ℚ lt_ℚ max_ℚ
labels_to_4 = refl

inflows_to_4 : traces_in (extended two_links flow_to_1 tail_from_1 (n 4)).inflows
    ≡ ((i 0, i 0) ∷ (i 1, i 3) ∷ (i 4, (pos 15, 2)) ∷ [], i 3 ∷ (pos 3, 2) ∷ []) ∷ ((i 0, i 0) ∷ (i 1, i 0) ∷ (i 4, (pos 9, 2)) ∷ [], i 0 ∷ (pos 3, 2) ∷ []) ∷ []
unfolding whole ratio gcd neg_ℚ inv_ℚ ◌+ℚ◌ ◌-ℚ◌ ◌*ℚ◌ ◌/ℚ◌ le_ℚ lt_ℚ max_ℚ
inflows_to_4 = refl

outflows_to_4 : traces_in (extended two_links flow_to_1 tail_from_1 (n 4)).outflows
    ≡ ((i 0, i 0) ∷ (i 1, i 0) ∷ (i 4, i 3) ∷ ((pos 17, 2), (pos 15, 2)) ∷ [], i 0 ∷ i 1 ∷ i 1 ∷ []) ∷ ((i 0, i 0) ∷ (i 4, i 0) ∷ ((pos 17, 2), (pos 9, 2)) ∷ [], i 0 ∷ i 1 ∷ []) ∷ []
unfolding whole ratio gcd neg_ℚ inv_ℚ ◌+ℚ◌ ◌-ℚ◌ ◌*ℚ◌ ◌/ℚ◌ le_ℚ lt_ℚ max_ℚ
outflows_to_4 = refl

queues_to_4 : curves_in (extended two_links flow_to_1 tail_from_1 (n 4)).queues
    ≡ ((i 0, i 0) ∷ (i 1, i 2) ∷ (i 4, (pos 7, 2)) ∷ []) ∷ ((i 0, i 0) ∷ (i 1, i 0) ∷ (i 4, (pos 3, 2)) ∷ []) ∷ []
unfolding whole ratio gcd neg_ℚ inv_ℚ ◌+ℚ◌ ◌-ℚ◌ ◌*ℚ◌ ◌/ℚ◌ le_ℚ lt_ℚ max_ℚ
queues_to_4 = refl
