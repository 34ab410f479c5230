-- A computed example: two links from source to sink, of transit times 1 and 3 and capacity 1 each, and the amount 6.
use Rattle.std.specs.Prelude.{◌≡◌, ℕ, true, false, List, [], ◌∷◌, ◌++◌, map, Some, Ok}
use Rattle.std.proofs.Common.{refl}
use lib.IntN.{ℤ, pos}
use Rattle.nf_rational.specs.Rational.{ℚ, ratio}
use Rattle.nf_rational.specs.Gcd.{gcd}
use Rattle.nf_rational.specs.Operations.{whole, neg_ℚ, inv_ℚ, ◌+ℚ◌, ◌-ℚ◌, ◌*ℚ◌, ◌/ℚ◌}
use Rattle.nf_rational.specs.Order.{le_ℚ, lt_ℚ, min_ℚ}
use Rattle.nf_frac_def.specs.Checked.{Checked, checked}
use Rattle.nf_model.specs.Quickest.{Fed}
use Rattle.nf_quick_def.specs.Pushes.{push_list, time_list}
use Rattle.nf_quick_def.specs.Cuts.{node_times_list, value_list}
use Rattle.nf_frac_def.specs.Passing.{Passing}
use Rattle.nf_model.specs.Network.{Network}
use Rattle.nf_quick_def.specs.Rounds.{round_list, reaches_list, distances_list, shortest_list}
use Rattle.nf_quick_def.specs.Quick.{QuickOutcome, FoundQuick, Budget, finish_list, quickest_list}

never : Passing
never op x y = false

two_links : Network
two_links = record {
  nodes = 2;
  source = 0;
  sink = 1;
  links =
      record { tail = 0; head = 1; transit = whole (pos 1); capacity = Some (whole (pos 1)) } ∷ record {
        tail = 0;
        head = 1;
        transit =
            whole (pos 3);
        capacity = Some (whole (pos 1));
      } ∷ [];
  pieces = [];
}

first : shortest_list never two_links (whole (pos 0) ∷ whole (pos 0) ∷ []) ≡ Ok
    (Some (record { steps = record { link = 0; forward = true } ∷ []; length = whole (pos 1); room = whole (pos 1) }))
unfolding never two_links shortest_list reaches_list round_list checked whole ratio gcd neg_ℚ inv_ℚ ◌+ℚ◌ ◌-ℚ◌ ◌*ℚ◌ ◌/ℚ◌ le_ℚ lt_ℚ min_ℚ
first = refl

-- A number given by its numerator and denominator.
parts : ℚ → ℤ × ℕ
parts x = (x.num, x.den)

-- The result in parts: the time, the rates with the walks, the cut, and its value.
seen : Checked QuickOutcome → List (ℤ × ℕ) × List (List ℕ)
seen (Ok (FoundQuick q)) = (map parts (q.time ∷ q.value ∷ map (λ (fed : Fed). fed.rate) q.walks ++ q.cut), map (λ (fed : Fed). fed.walk) q.walks)
seen answer = ([], [])

six : seen (quickest_list never two_links (whole (pos 6)) 2) ≡ ((pos 5, 1) ∷ (pos 6, 1) ∷ (pos 1, 1) ∷ (pos 1, 1) ∷ (pos 0, 1) ∷ (pos 5, 1) ∷ [], (0 ∷ []) ∷ (1 ∷ []) ∷ [])
unfolding seen parts never two_links quickest_list finish_list push_list time_list node_times_list value_list distances_list shortest_list reaches_list
    round_list checked whole ratio gcd neg_ℚ inv_ℚ ◌+ℚ◌ ◌-ℚ◌ ◌*ℚ◌ ◌/ℚ◌ le_ℚ lt_ℚ min_ℚ
six = refl

-- With the first walk alone the time would be 7, and the next walk has length 3.
too_few : quickest_list never two_links (whole (pos 6)) 1 ≡ Ok (Budget (record {
  walk =
      record { steps = record { link = 0; forward = true } ∷ []; length = whole (pos 1); room = whole (pos 1) };
  amount = whole (pos 1);
} ∷ []))
unfolding never two_links quickest_list finish_list push_list time_list node_times_list value_list distances_list shortest_list reaches_list round_list
    checked whole ratio gcd neg_ℚ inv_ℚ ◌+ℚ◌ ◌-ℚ◌ ◌*ℚ◌ ◌/ℚ◌ le_ℚ lt_ℚ min_ℚ
too_few = refl
