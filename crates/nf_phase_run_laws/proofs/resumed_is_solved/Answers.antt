use Rattle.nf_phase_run_laws.proofs.Ends.{resumed-solved}
use Rattle.nf_phase_run_laws.proofs.resumed_is_solved.Goals as goal

pub returns : goal.returns
returns c =
    λ passes net bounds later resumed old solved report phases good run whole done again ended to fits. resumed-solved passes net good bounds later resumed
    old solved report phases run whole done again ended to fits
