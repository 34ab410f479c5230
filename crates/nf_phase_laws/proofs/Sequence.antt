-- The phases of a run are a phase sequence.
use Rattle.std.proofs.Common.{◌≡◌, ℕ, suc, ◌+◌, List, [], ◌∷◌, length, sym, ap, refl, ◌∙◌, arith, Option, Some, slice_get}
use Rattle.nf_phase_laws.proofs.Common.{ℚ, Passing, Network, IsNetwork, IsPhase, PhasesFrom, IsPhaseSequence, Cause, Standing, Bounds, Runs, at_horizon}
use Rattle.nf_phase_laws.proofs.Common.{at_phases, fails, goes, IsPhaseRun, reached_by}
use Rattle.nf_thin_laws.proofs.Agree.{IsPhaseSequence-agree}
use Rattle.nf_phase_laws.proofs.WellRun.{WellRun, WellRun-start}
use Rattle.nf_phase_laws.proofs.Run.{WellRun-goes, IsPhase-goes}

-- Phases that lead from one run state to another.
record Leads (net : Network) (horizon : ℚ) (s last : Standing) : Type 0 where
  pub rest : List (ℚ × List ℚ)
  pub phases : PhasesFrom net horizon (reached_by s) rest
  pub count : s.made + length rest ≡ last.made
  pub ends : slice_get (reached_by s ∷ rest) (length rest) ≡ Some (reached_by last)

module _ (passes : Passing) (net : Network) (good : IsNetwork net) (bounds : Bounds) where
  Leads-none : (s : Standing) → Leads net bounds.horizon s s
  Leads-none s = record { rest = []; phases = tt; count = omega arith; ends = refl }

  Leads-goes : (s t last : Standing) → t.made ≡ suc s.made → IsPhase net bounds.horizon (reached_by s) (reached_by t) → Leads net bounds.horizon t last → Leads net bounds.horizon s last
  Leads-goes s t last made phase later = record { rest = reached_by t ∷ later.rest; phases = (phase, later.phases); count = (let c = later.count in omega arith); ends = later.ends }

  Leads-runs : (s last : Standing) (stop : Option (Cause ℚ)) → WellRun net s → Runs passes net bounds s last stop → Leads net bounds.horizon s last
  Leads-runs s last stop well (at_horizon e) = Leads-none s
  Leads-runs s last stop well (at_phases below e) = Leads-none s
  Leads-runs s last stop well (fails may f) = Leads-none s
  Leads-runs s last stop well (goes {new = t} may g rest) = Leads-goes s t last (ap (λ (n : Standing). n.made) g.new_is)
      (IsPhase-goes passes net good bounds s t g well) (Leads-runs t last stop (WellRun-goes passes net good bounds s t g well) rest)

  module _ (last : Standing) (stop : Option (Cause ℚ)) (run : IsPhaseRun passes net bounds last stop) where
    leads : Leads net bounds.horizon run.first last
    leads = Leads-runs run.first last stop (WellRun-start net good run.first run.start) run.runs

    abbrev phases : List (ℚ × List ℚ)
    phases = reached_by run.first ∷ leads.rest

    made : length leads.rest ≡ last.made
    made = let c = leads.count in let f = run.start.made in omega arith

    pub run_sequence : (phases : List (ℚ × List ℚ)) × IsPhaseSequence net bounds.horizon phases × (length phases ≡ suc last.made) × (slice_get phases last.made ≡ Some (reached_by last))
    run_sequence = (phases, (run.start.time, run.start.labels, leads.phases), ap suc made, ap (λ (n : ℕ). slice_get phases n) (sym made) ∙ leads.ends)

    pub sequence_ends : (others : List (ℚ × List ℚ)) → IsPhaseSequence net bounds.horizon others → length others ≡ suc last.made → slice_get others last.made ≡ Some (reached_by last)
    sequence_ends others is_one count =
        let mine = run_sequence in
        ap (λ (l : List (ℚ × List ℚ)). slice_get l last.made) (IsPhaseSequence-agree net bounds.horizon good others mine.0 is_one mine.1 (count ∙ sym mine.2)) ∙ mine.3
