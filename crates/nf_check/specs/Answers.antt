-- The meaning of an answer.
use Rattle.std.specs.Prelude.{◌≢◌, ℕ}
use Rattle.nf_rational.specs.Rational.{ℚ}
use Rattle.nf_model.specs.Network.{Network}
use Rattle.nf_model.specs.Equilibrium.{Flow, Equilibrium}
use Rattle.nf_check_def.specs.declared.Answer.{Answer}
use Rattle.nf_check_def.specs.declared.Answer.TheVariants.{Yes, No}

-- `Yes` implies an equilibrium; `No` implies that there is none, and that the two values differ
abbrev pub IsExact : Network → Flow → Answer ℕ ℕ ℚ → Type 0
IsExact net flow Yes = Equilibrium net flow
IsExact net flow (No rule subject time left right) = (left ≢ right) × ¬ Equilibrium net flow
