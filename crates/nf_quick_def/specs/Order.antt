-- The order of walks: by length, then by number of steps, then lexicographically by their steps.
use Rattle.std.specs.Prelude.{◌≡◌, ◌⊎◌, ◌<◌, ◌==◌, nat_lt, Bool, false, not, ◌&&◌, ◌||◌, List, [], ◌∷◌, length}
use Rattle.nf_rational.specs.Rational.{ℚ}
use Rattle.nf_rational.specs.Order.{◌<ℚ◌, lt_ℚ}
use Rattle.nf_quick_def.specs.Steps.{Step, place}

-- A path to a node: its length and its steps.
pub record Reach : Type 0 where
  pub distance : ℚ
  pub steps : List Step

-- ---- the order as a relation
-- The first list precedes the second lexicographically, or equals it. Both have equally many steps.
abbrev pub AreFirst : List Step → List Step → Type 0
AreFirst [] [] = Unit {0}
AreFirst (a ∷ walk) (b ∷ other) = (place a < place b) ⊎ ((place a ≡ place b) × AreFirst walk other)
AreFirst walk other = ⊥

abbrev pub AreFewerOrFirst : List Step → List Step → Type 0
AreFewerOrFirst walk other = (length walk < length other) ⊎ ((length walk ≡ length other) × AreFirst walk other)

-- Walk a precedes b or equals it.
abbrev pub IsAtMost : Reach → Reach → Type 0
IsAtMost a b = (a.distance <ℚ b.distance) ⊎ ((a.distance ≡ b.distance) × AreFewerOrFirst a.steps b.steps)

-- ---- the order as a test
abbrev pub are_before : List Step → List Step → Bool
are_before [] other = false
are_before (a ∷ walk) [] = false
are_before (a ∷ walk) (b ∷ other) = nat_lt (place a) (place b) || ((place a == place b) && are_before walk other)

abbrev pub are_fewer_or_before : List Step → List Step → Bool
are_fewer_or_before walk other = nat_lt (length walk) (length other) || ((length walk == length other) && are_before walk other)

-- Walk a precedes b.
abbrev pub is_better : Reach → Reach → Bool
is_better a b = lt_ℚ a.distance b.distance || (not (lt_ℚ b.distance a.distance) && are_fewer_or_before a.steps b.steps)
