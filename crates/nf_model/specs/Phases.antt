-- Phases: labels move at the slopes of a thin flow while the sets of links and the supply rate stay the same (the constructive step of
-- Koch and Skutella 2011).
use Rattle.std.specs.Prelude.{◌≡◌, ◌⊎◌, ℕ, ◌<◌, List, [], ◌∷◌, length}
use Rattle.nf_rational.specs.Rational.{ℚ}
use Rattle.nf_rational.specs.Operations.{0ℚ, ◌+ℚ◌, ◌-ℚ◌, ◌*ℚ◌}
use Rattle.nf_rational.specs.Order.{◌≤ℚ◌, ◌<ℚ◌, min_ℚ}
use Rattle.nf_model.specs.Entries.{number_at}
use Rattle.nf_model.specs.Curve.{Within}
use Rattle.nf_model.specs.Walk.{IsLeastTransit}
use Rattle.nf_model.specs.Network.{Link, Piece, Network, IsLink, IsPiece, hops, rate_at}
use Rattle.nf_model.specs.ThinFlow.{slacks_of, sets_at, IsThinFlow}

-- the labels of departure 0, when the links are empty, are the least transit sums from the source
pub record AreStartLabels (net : Network) (labels : List ℚ) : Type 0 where
  pub count : length labels ≡ net.nodes
  pub each : (v : ℕ) → v < net.nodes → IsLeastTransit (hops net) net.source v (number_at labels v)

-- moves each label at its slope for the duration `while`
abbrev pub moved : List ℚ → List ℚ → ℚ → List ℚ
moved (label ∷ labels) (slope ∷ slopes) while = (label +ℚ while *ℚ slope) ∷ moved labels slopes while
moved labels slopes while = []

-- returns the slack of a link after the labels of its ends move at their slopes for the duration `while`
abbrev pub slack_after : List ℚ → List ℚ → ℕ → Link → ℚ → ℚ
slack_after slacks slopes e link while = number_at slacks e +ℚ while *ℚ (number_at slopes link.head -ℚ number_at slopes link.tail)

-- A phase that begins at `time`, with these slacks and slopes, may last for `length`. During the phase, each inactive link has a slack
-- of at most 0, and each resetting link a slack of at least 0. No inflow change occurs strictly within the phase.
pub record Lasts (net : Network) (slacks slopes : List ℚ) (time length : ℚ) : Type 0 where
  pub not_negative : 0ℚ ≤ℚ length
  pub inactive : (e : ℕ) (link : Link) (while : ℚ) → IsLink net e link → number_at slacks e <ℚ 0ℚ → Within 0ℚ length while
      → slack_after slacks slopes e link while ≤ℚ 0ℚ
  pub resetting : (e : ℕ) (link : Link) (while : ℚ) → IsLink net e link → 0ℚ <ℚ number_at slacks e → Within 0ℚ length while
      → 0ℚ ≤ℚ slack_after slacks slopes e link while
  pub supply : (i : ℕ) (piece : Piece) → IsPiece net.pieces i piece → time <ℚ piece.start → (time +ℚ length) ≤ℚ piece.start

-- the extension length is the greatest length for which the phase may last
pub record IsExtension (net : Network) (slacks slopes : List ℚ) (time length : ℚ) : Type 0 where
  pub lasts : Lasts net slacks slopes time length
  pub greatest : (other : ℚ) → Lasts net slacks slopes time other → other ≤ℚ length

-- the phase may last for any length, so no extension length exists
abbrev pub IsUnending : Network → List ℚ → List ℚ → ℚ → Type 0
IsUnending net slacks slopes time = (length : ℚ) → 0ℚ ≤ℚ length → Lasts net slacks slopes time length

-- the length of a phase is the extension length, cut at the horizon
abbrev pub IsPhaseLength : Network → List ℚ → List ℚ → ℚ → ℚ → ℚ → Type 0
IsPhaseLength net slacks slopes time horizon length =
    ((extension : ℚ) × IsExtension net slacks slopes time extension × (length ≡ min_ℚ (horizon -ℚ time) extension))
    ⊎ (IsUnending net slacks slopes time × (length ≡ horizon -ℚ time))

-- One phase leads from a time with its labels to a later time with its labels. Its thin flow belongs to the sets of the slacks and the
-- supply rate at the earlier time.
pub record IsPhase (net : Network) (horizon : ℚ) (old new : ℚ × List ℚ) : Type 0 where
  pub before : old.0 <ℚ horizon
  pub flows : List ℚ
  pub slopes : List ℚ
  pub thin : IsThinFlow net (sets_at net old.1) (rate_at net old.0) flows slopes
  pub length : ℚ
  pub is_length : IsPhaseLength net (slacks_of (hops net) old.1) slopes old.0 horizon length
  pub time : new.0 ≡ old.0 +ℚ length
  pub labels : new.1 ≡ moved old.1 slopes length

-- each entry leads to the next by one phase
abbrev pub PhasesFrom : Network → ℚ → ℚ × List ℚ → List (ℚ × List ℚ) → Type 0
PhasesFrom net horizon old [] = Unit {0}
PhasesFrom net horizon old (new ∷ rest) = IsPhase net horizon old new × PhasesFrom net horizon new rest

-- a phase sequence to a horizon begins with time 0 and the start labels; each further entry follows by one phase
abbrev pub IsPhaseSequence : Network → ℚ → List (ℚ × List ℚ) → Type 0
IsPhaseSequence net horizon [] = ⊥
IsPhaseSequence net horizon (first ∷ rest) = (first.0 ≡ 0ℚ) × AreStartLabels net first.1 × PhasesFrom net horizon first rest
