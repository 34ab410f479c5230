-- Residual arcs of a flow with their end nodes, and the paths they offer.
use Rattle.std.specs.Prelude.{◌≡◌, ℕ, suc, ◌<◌, Bool, true, false, if◌then◌else◌, List, [], ◌∷◌, ◌++◌, Some, slice_get, Result, Ok, Err}
use Rattle.nf_rational.specs.Rational.{ℚ}
use Rattle.nf_frac_def.specs.Passing.{Passing}
use Rattle.nf_frac_def.specs.declared.Halt.{Halt}
use Rattle.nf_frac_def.specs.declared.PassedAt.{PassedAt}
use Rattle.nf_frac_def.specs.Checked.{Checked}
use Rattle.nf_model.specs.Entries.{number_at}
use Rattle.nf_model.specs.Network.{Link}
use Rattle.nf_quick_def.specs.Steps.{begin_of, end_of, can_go}
use Rattle.nf_quick_def.specs.Rounds.{Known, known_at, along}
use Rattle.nf_residual.specs.declared.ways.Twig.{Twig}
use Rattle.nf_residual.specs.declared.legs.Leg.{Leg}
use Rattle.nf_residual.specs.Ways.{Places, place_at, known_by}

-- The residual arc of a step along a link, or none if the step has no residual capacity.
abbrev pub leg_of : Bool → ℕ → Link → ℚ → List Leg
leg_of forward e link flow =
    if can_go forward link.capacity flow
    then record {
      step = record { link = e; forward = forward };
      begin = begin_of forward link;
      end = end_of forward link;
      transit = link.transit;
    } ∷ []
    else []

-- The residual arcs of all links by number, the forward arc before the backward one; e is the number of the first link.
abbrev pub legs_from : ℕ → List Link → List ℚ → List Leg
legs_from e [] flows = []
legs_from e (link ∷ links) flows = leg_of true e link (number_at flows e) ++ leg_of false e link (number_at flows e)
    ++ legs_from (suc e) links flows

-- The arcs begin and end at nodes below `nodes`.
abbrev pub AreLegs : ℕ → List Leg → Type 0
AreLegs nodes legs = (k : ℕ) (leg : Leg) → slice_get legs k ≡ Some leg → (leg.begin < nodes) × (leg.end < nodes)

-- The table of best paths after an arc offers its extended path to its end.
abbrev pub along_leg : Passing → Known → Known → Leg → Checked Known
along_leg passes before so_far leg = along passes true (known_at before leg.begin) leg.step leg.transit leg.end so_far

-- Arcs whose begin has an old path (index below `fresh`) offer nothing better, and no operation of theirs exceeds its bound.
abbrev pub AreSettled : Passing → List Leg → ℕ → List Twig → Places → Type 0
AreSettled passes legs fresh tree places = (k : ℕ) (leg : Leg) → slice_get legs k ≡ Some leg → (way : ℕ)
    → place_at places leg.begin ≡ Some way → way < fresh
    → along_leg passes (known_by tree places) (known_by tree places) leg ≡ Ok (known_by tree places)

-- As `Gives`, but if the arcs are not tried in order, nothing is said of a refusal.
abbrev pub StopsBy : {A : Type 0} → Halt ℚ → Bool → Result A (PassedAt ℚ) → Type 0
StopsBy Halt.Memory in_order said = Unit {0}
StopsBy (Halt.Passed p) true said = said ≡ Err p
StopsBy (Halt.Passed p) false said = Unit {0}

abbrev pub GivesBy : {X A : Type 0} → Bool → (X → A) → Result X (Halt ℚ) → Result A (PassedAt ℚ) → Type 0
GivesBy in_order value (Ok x) said = said ≡ Ok (value x)
GivesBy in_order value (Err h) said = StopsBy h in_order said
