-- A link is resetting exactly if the label of its head is later than that of its tail plus the transit time.
use Rattle.std.proofs.Common.{◌≡◌, ℕ, Bool, List, Some, slice_get, map, IsTrue, sym, ap, ◌∙◌}
use Rattle.std.specs.Prelude.{◌↔◌}
use Rattle.std.proofs.lemmas.Option.{same_Some}
use Rattle.nf_rational.specs.Rational.{ℚ}
use Rattle.nf_rational.specs.Operations.{0ℚ, ◌+ℚ◌, ◌-ℚ◌}
use Rattle.nf_rational.specs.Order.{◌<ℚ◌, lt_ℚ}
use Rattle.nf_rational_laws.proofs.Tests.{less_of_test, test_of_less}
use Rattle.nf_rational_laws.proofs.Entries.{slice_get-image}
use Rattle.nf_rational_laws.proofs.Facts.{lt_of_gap}
use Rattle.nf_rational_laws.proofs.Order.{less_ps}
use Rattle.nf_model.specs.Entries.{number_at}
use Rattle.nf_model.specs.Walk.{Hop, IsHop}
use Rattle.nf_model.specs.ThinFlow.{slack, slacks_of, sets_of}

pub queue_is_slack : (hops : List Hop) (labels : List ℚ) (link : ℕ) (flags : List Bool) (flag : Bool)
    → flags ≡ (sets_of (slacks_of hops labels)).resetting → slice_get flags link ≡ Some flag
    → (hop : Hop) → IsHop hops link hop → IsTrue flag ↔ ((number_at labels hop.tail +ℚ hop.transit) <ℚ number_at labels hop.head)
queue_is_slack hops labels link flags flag e found hop is = (
  (λ t. lt_of_gap arrival label (less_of_test 0ℚ (label -ℚ arrival) (sym same ∙ t))),
  (λ l. same ∙ test_of_less 0ℚ (label -ℚ arrival) (less_ps arrival label l)),
)
  where
    arrival : ℚ
    arrival = number_at labels hop.tail +ℚ hop.transit

    label : ℚ
    label = number_at labels hop.head

    there : slice_get (map (lt_ℚ 0ℚ) (map (slack labels) hops)) link ≡ Some (lt_ℚ 0ℚ (slack labels hop))
    there = slice_get-image (lt_ℚ 0ℚ) (map (slack labels) hops) link (slack labels hop) (slice_get-image (slack labels) hops link hop is)

    same : flag ≡ lt_ℚ 0ℚ (slack labels hop)
    same = same_Some flag (lt_ℚ 0ℚ (slack labels hop)) (sym found ∙ (ap (λ (f : List Bool). slice_get f link) e ∙ there))
