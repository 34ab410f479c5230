-- The test whether a run is mid-phase, and the run state after the remainder of a phase.
use Rattle.std.specs.Prelude.{◌≡◌, ◌≢◌, ℕ, Bool, true, false, if◌then◌else◌, List, [], ◌∷◌, Some, None, slice_get}
use Rattle.nf_rational.specs.Rational.{ℚ}
use Rattle.nf_rational.specs.Operations.{0ℚ}
use Rattle.nf_rational.specs.Signs.{is_same}
use Rattle.nf_model.specs.Entries.{number_at}
use Rattle.nf_model.specs.Network.{Piece, Network}
use Rattle.nf_model.specs.Pattern.{Pattern}
use Rattle.nf_thin_def.specs.PhaseRun.{Standing}
use Rattle.nf_phase_def.specs.Open.{with_last}
use Rattle.nf_phase.specs.declared.phase.Phase.{Phase}
use Rattle.nf_phase.specs.Finding.{after_phase}

-- No piece starts at this time.
abbrev pub none_starts : List Piece → ℚ → Bool
none_starts [] time = true
none_starts (piece ∷ pieces) time = if is_same piece.start time then false else none_starts pieces time

-- Link e has a state or a nonzero slack.
abbrev pub ApartAt : List ℚ → Pattern → ℕ → Type 0
ApartAt slacks last e = slice_get last e ≡ Some None → number_at slacks e ≢ 0ℚ

abbrev pub HaveStateOrSlack : List ℚ → Pattern → Type 0
HaveStateOrSlack slacks last = (e : ℕ) → ApartAt slacks last e

-- The run state after a phase. If the phase is the remainder of an interrupted one, the last pattern stays.
abbrev pub after_rest : Bool → Network → Standing → Phase → Standing
after_rest true net s phase = with_last s.last (after_phase net s phase)
after_rest false net s phase = after_phase net s phase
