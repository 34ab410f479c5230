-- Slopes of thin flows.
use Rattle.std.specs.Prelude.{◌≡◌, List}
use Rattle.nf_rational.specs.Rational.{ℚ}
use Rattle.nf_model.specs.Network.{Network}
use Rattle.nf_model.specs.ThinFlow.{Sets, IsThinFlow}
use Rattle.nf_model.specs.Pattern.{Pattern, IsListedIn, Solves, Meets}

-- These are the slopes of a thin flow.
abbrev pub AreThinSlopes : Network → Sets → ℚ → List ℚ → Type 0
AreThinSlopes net sets rate slopes = (flows : List ℚ) × IsThinFlow net sets rate flows slopes

-- Every solution of a listed pattern that meets its inequalities has these slopes.
abbrev pub AreSlopesOfListed : Network → Sets → ℚ → List ℚ → Type 0
AreSlopesOfListed net sets rate slopes = (pattern : Pattern) (flows other : List ℚ) → IsListedIn net sets pattern
    → Solves net sets rate pattern flows other → Meets net pattern flows other
    → other ≡ slopes
