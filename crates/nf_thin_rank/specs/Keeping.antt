-- How far the full listing is advanced in a narrow search.
use Rattle.std.specs.Prelude.{◌≡◌, ℕ, true, false, Option, Some}
use Rattle.nf_model.specs.Pattern.{Pattern}
use Rattle.nf_pattern.specs.Given.{Question, Given}
use Rattle.nf_thin_narrow.specs.Asking.{StandsWithin, IsBehind, StandsAt}
use Rattle.nf_thin_rank.specs.declared.standing.Standing.{Standing}
use Rattle.nf_thin_rank.specs.declared.pace.Pace.{Pace}

-- The budget status of a pattern is right: within, beyond or unknown.
abbrev pub TellsStanding : Question → Pattern → ℕ → Standing → Type 0
TellsStanding question pattern budget Standing.Within = StandsWithin question pattern budget true
TellsStanding question pattern budget Standing.Beyond = StandsWithin question pattern budget false
TellsStanding question pattern budget Standing.Unknown = Unit {0}

-- The full listing, if it is advanced.
abbrev pub walk_of : Pace → Option Given
walk_of pace = pace.walk

-- The full listing, if it is advanced, is still before this pattern.
abbrev pub StaysBehind : Question → Pace → Pattern → Type 0
StaysBehind question pace pattern = (all : Given) → walk_of pace ≡ Some all → IsBehind question all pattern

-- The full listing, if it is advanced, is exactly at this pattern.
abbrev pub IsInStep : Question → Pace → Pattern → Type 0
IsInStep question pace pattern = (all : Given) → walk_of pace ≡ Some all → StandsAt question all pattern
