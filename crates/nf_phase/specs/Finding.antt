-- The result of the search for a phase, before the run is extended by it.
use Rattle.std.specs.Prelude.{◌≡◌, ℕ, suc, List, Some, None, Ok, Err}
use Rattle.nf_rational.specs.Rational.{ℚ}
use Rattle.nf_frac_def.specs.Passing.{Passing}
use Rattle.nf_frac_def.specs.Checked.{placed}
use Rattle.nf_frac_def.specs.declared.Part.TheVariants.{Slack}
use Rattle.nf_frac_def.specs.declared.Passed.{Passed}
use Rattle.nf_frac_def.specs.declared.PassedAt.{PassedAt}
use Rattle.nf_model.specs.Network.{Network, hops}
use Rattle.nf_model.specs.ThinFlow.{slacks_of, sets_at}
use Rattle.nf_model.specs.Pattern.{Pattern}
use Rattle.nf_model.specs.Phases.{IsPhaseLength}
use Rattle.nf_net_def.specs.declared.Cause.{Cause}
use Rattle.nf_thin_def.specs.Slack.{slack_list}
use Rattle.nf_thin_def.specs.Search.{SearchAnswer, Found}
use Rattle.nf_thin_def.specs.PhaseRun.{Standing, PhaseStep, Seeks, cause_of_search, phase_lists, standing_after}
use Rattle.nf_phase_def.specs.ToEnd.{SeeksOn}
use Rattle.nf_phase.specs.declared.finding.PhaseStart as code
use Rattle.nf_phase.specs.declared.phase.Phase.{Phase}

abbrev pub step_in : Phase → PhaseStep
step_in phase = record { length = phase.length; labels = phase.labels.items; links = phase.steps.items }

-- The run state after a phase.
abbrev pub after_phase : Network → Standing → Phase → Standing
after_phase net s phase = standing_after net s phase.thin.pattern phase.thin.slopes.items (step_in phase)

-- ---- the search, which doesn't depend on the horizon
module _ (passes : Passing) (net : Network) (patterns : ℕ) (s : Standing) where
  -- The slacks, their sets, and the found thin flow with its pattern, at some rank in the listing.
  pub record IsFound (found : code.PhaseStart) : Type 0 where
    pub slacks : found.slacks.items ≡ slacks_of (hops net) s.labels
    pub sets : found.sets ≡ sets_at net s.labels
    pub seeks : (place : ℕ) × SeeksOn passes net patterns s (Found place found.thin.pattern found.thin.flows.items found.thin.slopes.items)

  -- The cause for which no thin flow is found: an operation of the slack list exceeds its bound, or the search finds no pattern.
  pub data FindsNone : Cause ℚ → Type 0 where
    at_slack : (p : Passed ℚ) → slack_list passes (hops net) s.labels ≡ Err p → FindsNone (Cause.Passed (suc s.made) None (placed Slack p))
    at_search : (answer : SearchAnswer) (cause : Cause ℚ) → SeeksOn passes net patterns s answer
        → cause_of_search (suc s.made) patterns answer ≡ Some cause → FindsNone cause

-- ---- the operation sequences of a phase
-- The cause is their first operation that exceeds its bound.
pub data ListsPass (passes : Passing) (net : Network) (horizon : ℚ) (s : Standing) (pattern : Pattern) (flows slopes : List ℚ) : Cause ℚ
    → Type 0 where
  at_lists : (p : PassedAt ℚ) → phase_lists passes net horizon s pattern flows slopes ≡ Err p
      → ListsPass passes net horizon s pattern flows slopes (Cause.Passed (suc s.made) None p)

-- The phase extends the run state, by the first accepted pattern.
pub record LeadsOn (passes : Passing) (net : Network) (horizon : ℚ) (patterns : ℕ) (s : Standing) (phase : Phase) : Type 0 where
  pub place : ℕ
  pub finds : Seeks passes net horizon patterns s (Found place phase.thin.pattern phase.thin.flows.items phase.thin.slopes.items)
  pub lists : phase_lists passes net horizon s phase.thin.pattern phase.thin.flows.items phase.thin.slopes.items ≡ Ok (step_in phase)
  pub is_length : IsPhaseLength net (slacks_of (hops net) s.labels) phase.thin.slopes.items s.time horizon phase.length
