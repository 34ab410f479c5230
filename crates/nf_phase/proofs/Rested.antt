-- The run state after a phase that is no remainder of an interrupted phase.
use Rattle.std.proofs.Common.{◌≡◌, Bool, true, false, refl, sym}
use Rattle.nf_phase.proofs.Common.{false≢true, Network, Standing, Phase, after_phase, after_rest}

pub phase_made : (rests : Bool) (net : Network) (s : Standing) (phase : Phase) → rests ≡ false → after_phase net s phase ≡ after_rest rests net s phase
phase_made true net s phase e = absurd (false≢true (sym e))
phase_made false net s phase e = refl
