-- The state of a run resumed from a report that the check accepts.
use Rattle.std.proofs.Common.{◌≡◌, ℕ, refl, subst, Ok}
use Rattle.nf_phase_run_laws.proofs.Common.{ℚ, Passing, Network, IsNetwork, Equilibrium, Report, IsWellFormed, Standing, then_ok, WellRun, check_list}
use Rattle.nf_phase_run_laws.proofs.Common.{CanBeChecked, Equilibrium-holding, list-stands, Answer, Yes, No, check_list-checks, Stands, cut_flow}
use Rattle.nf_phase_run_laws.proofs.Common.{after_check}
use Rattle.nf_resume_def.specs.Resuming.{restart_list, resume_list}
use Rattle.nf_phase_equilibrium_laws.proofs.RestoredRun.{well_from}
use Rattle.nf_resume_laws.proofs.Restarted.{Equilibrium-cut_flow, EndsAtItsLabels-cut_flow}

-- The answer of the check for such a run state.
answer_was : (passes : Passing) (net : Network) (report : Report) (answer : Answer ℕ ℕ ℚ) (s : Standing) → after_check passes net report answer ≡ Ok (Stands s) → answer ≡ Yes
answer_was passes net report Yes s e = refl
answer_was passes net report (No rule subject time left right) s e = absurd (cc)

module _ (passes : Passing) (net : Network) (good : IsNetwork net) (old : Report) (formed : IsWellFormed net old) (s : Standing)
    (stands : resume_list passes net old ≡ Ok (Stands s)) where
  equilibrium : Equilibrium net old.flow
  unfolding resume_list
  equilibrium =
      let a = then_ok (check_list passes net old.flow) _ (Stands s) stands in
      let given : CanBeChecked net old.flow = record {
        network = good;
        shape = formed.shape;
        inflow_rates = formed.inflow_rates;
        outflow_rates =
            formed.outflow_rates;
        reached = formed.reached;
      } in
      Equilibrium-holding net old.flow given
      (check_list-checks passes net old.flow given Yes (subst (λ (answer : Answer ℕ ℕ ℚ). check_list passes net old.flow ≡ Ok answer)
      (answer_was passes net old a.between s a.next) a.first))

  pub restarts : restart_list passes net old ≡ Ok s
  restarts = list-stands passes net old s stands

  pub well_restarted : WellRun net s
  unfolding restart_list
  well_restarted =
      let a = then_ok (cut_flow passes net old.flow) _ s restarts in
      well_from passes net good a.between old.last s (Equilibrium-cut_flow passes net old.flow a.between good equilibrium a.first)
      (EndsAtItsLabels-cut_flow passes net old.flow a.between good equilibrium a.first) a.next
