-- The exact effect of a push along a walk: each link's flow changes by the amount times its forward crossings minus its backward ones.
use Rattle.std.specs.Prelude.{◌≡◌, ℕ, ◌==◌, if◌then◌else◌, List, [], ◌∷◌, length}
use Rattle.nf_rational.specs.Rational.{ℚ}
use Rattle.nf_rational.specs.Operations.{0ℚ, 1ℚ, ◌+ℚ◌, ◌*ℚ◌}
use Rattle.nf_model.specs.Entries.{number_at}
use Rattle.nf_quick_def.specs.Steps.{Step, directed}

abbrev pub crossed : List Step → ℕ → ℚ
crossed [] e = 0ℚ
crossed (step ∷ walk) e = (if step.link == e then directed step.forward 1ℚ else 0ℚ) +ℚ crossed walk e

pub record IsPushed (flows : List ℚ) (walk : List Step) (amount : ℚ) (new : List ℚ) : Type 0 where
  pub count : length new ≡ length flows
  pub flow : (e : ℕ) → number_at new e ≡ number_at flows e +ℚ crossed walk e *ℚ amount
