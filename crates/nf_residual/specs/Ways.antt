-- The tree of paths from one node: each path extends an earlier one by a step.
use Rattle.std.specs.Prelude.{◌≡◌, ◌⊎◌, ℕ, zero, suc, ◌<◌, ◌≤◌, ◌==◌, nat_lt, Bool, true, if◌then◌else◌, List, [], ◌∷◌, ◌++◌, length, set, replicate, map, Option, Some, None, slice_get, unwrap_or, option_map}
use Rattle.nf_rational.specs.Rational.{ℚ}
use Rattle.nf_rational.specs.Operations.{0ℚ}
use Rattle.nf_quick_def.specs.Steps.{Step, place}
use Rattle.nf_quick_def.specs.Order.{Reach, is_better}
use Rattle.nf_quick_def.specs.Rounds.{Known}
use Rattle.nf_residual.specs.declared.ways.Twig.{Twig}

-- The path of no step.
abbrev pub first_twig : Twig
first_twig = record { distance = 0ℚ; count = 0; last = record { link = 0; forward = true }; before = 0 }

abbrev pub twig_at : List Twig → ℕ → Twig
twig_at tree i = unwrap_or (slice_get tree i) first_twig

-- The last n steps of path i.
abbrev pub steps_back : ℕ → List Twig → ℕ → List Step
steps_back zero tree i = []
steps_back (suc n) tree i = steps_back n tree (twig_at tree i).before ++ (twig_at tree i).last ∷ []

abbrev pub way_at : List Twig → ℕ → Reach
way_at tree i = record { distance = (twig_at tree i).distance; steps = steps_back (twig_at tree i).count tree i }

-- The path before the last step has one step fewer, and path i has at most i steps.
pub record IsPathTree (tree : List Twig) : Type 0 where
  pub earlier : (i : ℕ) → (twig_at tree i).before ≤ i
  pub fewer : (i n : ℕ) → (twig_at tree i).count ≡ suc n → (twig_at tree (twig_at tree i).before).count ≡ n
  pub few : (i : ℕ) → (twig_at tree i).count ≤ i

-- ---- a path extended by a step, of the given length
abbrev pub extended_by : Reach → Step → ℚ → Reach
extended_by way step distance = record { distance = distance; steps = way.steps ++ step ∷ [] }

abbrev pub twig_after : List Twig → ℕ → Step → ℚ → Twig
twig_after tree way step distance = record { distance = distance; count = suc (twig_at tree way).count; last = step; before = way }

-- A path precedes the known one, or none is known.
abbrev pub gains : Reach → Option Reach → Bool
gains way None = true
gains way (Some known) = is_better way known

-- The step with the lesser sort key comes first; if the keys are equal, `later` decides.
abbrev pub one_before : Step → Step → Bool → Bool
one_before here there later = if place here == place there then later else nat_lt (place here) (place there)

-- ---- for each node the index of the best path to it
abbrev pub Places : Type 0
Places = List (Option ℕ)

abbrev pub place_at : Places → ℕ → Option ℕ
place_at places v = unwrap_or (slice_get places v) None

-- Every index is below `count`.
abbrev pub ArePathsBelow : ℕ → Places → Type 0
ArePathsBelow count places = (v way : ℕ) → place_at places v ≡ Some way → way < count

-- The table of best paths that the tree and the indices represent.
abbrev pub known_by : List Twig → Places → Known
known_by tree places = map (option_map (way_at tree)) places

-- Only the node `from` has a path, of index 0.
abbrev pub first_places : ℕ → ℕ → Places
first_places nodes from = set (replicate nodes None) from (Some 0)

-- Paths were added to the tree, and each changed index is that of an added path. If no path was added, the indices are unchanged.
pub record Grows (old new : List Twig) (before after : Places) : Type 0 where
  pub added : List Twig
  pub grown : new ≡ old ++ added
  pub count : length after ≡ length before
  pub places : (v : ℕ) → (place_at after v ≡ place_at before v)
      ⊎ ((way : ℕ) × (place_at after v ≡ Some way) × (length old ≤ way) × (way < length new))
  pub same : length new ≡ length old → after ≡ before
