-- Slopes of a curve's pieces that are known before the curve is put into short form.
use Rattle.std.specs.Prelude.{List, [], ◌∷◌, Option, Some, None}
use Rattle.nf_rational.specs.Rational.{ℚ}
use Rattle.nf_model.specs.Curve.{Point}
use Rattle.nf_load.specs.Rates.{IsRate}

-- the value within both options, or None if either has none
abbrev pub flat : {A : Type 0} → Option (Option A) → Option A
flat None = None
flat (Some x) = x

-- On holds of each label with the entry of the same number and the entry after it; labels beyond the last such pair have no condition
abbrev pub Along : {A B : Type 0} → (B → A → A → Type 0) → List A → List B → Type 0
Along On (x ∷ y ∷ rest) (label ∷ labels) = On label x y × Along On (y ∷ rest) labels
Along On (x ∷ []) labels = Unit {0}
Along On [] labels = Unit {0}
Along On (x ∷ y ∷ rest) [] = Unit {0}

-- each known slope is that of the piece of the same number, and no operation of its computation passes
abbrev pub AreKnownSlopes : List Point → List (Option ℚ) → Type 0
AreKnownSlopes points slopes = Along IsRate points slopes
