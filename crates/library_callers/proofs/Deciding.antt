-- What tests of numbers and answers decide.
use Rattle.std.proofs.Common.{◌≡◌, ℕ, ◌<◌, List, Bool, true, false, MatchBool, refl, sym}
use Rattle.std.specs.Prelude.{◌≢◌}
use Rattle.nf_rational.specs.Rational.{ℚ}
use Rattle.nf_rational.specs.Operations.{0ℚ, 1ℚ}
use Rattle.nf_rational.specs.Order.{◌≤ℚ◌, ◌<ℚ◌, le_ℚ}
use Rattle.nf_rational_laws.proofs.Order.{≤ℚ_antisymm, ≤ℚ_of_same, not_both_ℚ}
use Rattle.nf_rational_laws.proofs.Tests.{le_of_test, lt_of_test}
use Rattle.nf_model.specs.Entries.{number_at}
use Rattle.nf_model.specs.Network.{Network}
use Rattle.nf_model.specs.Equilibrium.{Flow, Equilibrium}
use Rattle.nf_model.specs.Quickest.{IsQuickest}
use Rattle.nf_check_def.specs.declared.Answer.{Answer}
use Rattle.nf_check_def.specs.declared.Answer.TheVariants.{Yes, No}
use Rattle.nf_check.specs.Answers.{IsExact}
use Rattle.nf_phase_def.specs.ToEnd.{Tail}
use Rattle.nf_forever_laws.specs.TailGrowth.{TailGrows}
use Rattle.library_callers.specs.Deadlines.{FitsBefore, NothingArrivesBy}
use Rattle.library_callers.specs.Supplies.{CutsCarry}

-- the answer is yes exactly if the flow is an equilibrium
pub by_answer : (net : Network) (flow : Flow) (answer : Answer ℕ ℕ ℚ) (yes : Bool) → IsExact net flow answer → MatchBool yes (answer ≡ Yes) (answer ≢ Yes)
    → MatchBool yes (Equilibrium net flow) (Equilibrium net flow → ⊥)
by_answer net flow Yes true exact says = exact
by_answer net flow Yes false exact says = absurd (says refl)
by_answer net flow (No rule subject time left right) true exact says = absurd (cc)
by_answer net flow (No rule subject time left right) false exact says = exact.1

-- no feasible flow delivers the amount before the least time
pub by_deadline : (net : Network) (amount time deadline : ℚ) (yes : Bool) → IsQuickest net amount time → 0ℚ ≤ℚ deadline → yes ≡ le_ℚ time deadline
    → MatchBool yes (FitsBefore net amount deadline) (NothingArrivesBy net amount deadline)
by_deadline net amount time deadline true is nn says = record { time = time; quickest = is; in_time = le_of_test time deadline (sym says) }
by_deadline net amount time deadline false is nn says = λ entered left d. not_both_ℚ deadline time (lt_of_test time deadline (sym says)) (is.least entered left deadline nn d)

-- the slope of the sink is at most 1 exactly if each cut carries the supply
pub by_slope : (net : Network) (flow : Flow) (tail : Tail) (yes : Bool) → net.sink < net.nodes → TailGrows net flow tail → yes ≡ le_ℚ (number_at tail.slopes net.sink) 1ℚ
    → MatchBool yes (CutsCarry net) (CutsCarry net → ⊥)
by_slope net flow tail true sink grows says =
    let slope = number_at tail.slopes net.sink in
    grows.least_cut.settles.0 (≤ℚ_antisymm slope 1ℚ (le_of_test slope 1ℚ (sym says)) (grows.cuts.keeps_up net.sink sink))
by_slope net flow tail false sink grows says = λ carries.
    let slope = number_at tail.slopes net.sink in
    not_both_ℚ 1ℚ slope (lt_of_test slope 1ℚ (sym says)) (≤ℚ_of_same slope 1ℚ (grows.least_cut.settles.1 carries))
