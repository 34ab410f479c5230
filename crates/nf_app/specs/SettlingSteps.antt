-- Words for private functions alone: what settling flows and slopes at departure 0 returns.
use Rattle.std.specs.Prelude.{◌≡◌, List, Option, Some, None, IsOk, Result, Ok, Err}
use Rattle.nf_rational.specs.Rational.{ℚ}
use Rattle.nf_frac_def.specs.Passing.{passes_Q}
use Rattle.nf_frac_def.specs.Checked.{at_part}
use Rattle.nf_frac_def.specs.declared.Part.TheVariants.{Slack}
use Rattle.nf_frac_def.specs.declared.Halt.{Halt}
use Rattle.nf_model.specs.Network.{Network, hops}
use Rattle.nf_model.specs.ThinFlow.{Sets, sets_at}
use Rattle.nf_model.specs.Phases.{AreStartLabels}
use Rattle.nf_thin_def.specs.Slack.{slack_list}
use Rattle.nf_complete_def.specs.FlowsFile.{GivenFlows}
use Rattle.nf_complete.specs.declared.settled.Settled.{Settled}
use Rattle.nf_app.specs.Settling.{AreSettled, AreNotThin, PassesFirst}

-- this holds of the labels at departure 0
abbrev pub AtStartLabels : Network → (List ℚ → Type 0) → Type 0
AtStartLabels net Holds = (labels : List ℚ) × AreStartLabels net labels × Holds labels

-- the sets of the slacks, if no operation of the slack list passes; else the first operation that passes
abbrev pub AreStartSets : Network → Result Sets (Halt ℚ) → Type 0
AreStartSets net (Ok sets) = AtStartLabels net (λ labels. IsOk (slack_list passes_Q (hops net) labels) × (sets_at net labels ≡ sets))
AreStartSets net (Err (Halt.Passed at)) = AtStartLabels net (λ labels. at_part Slack (slack_list passes_Q (hops net) labels) ≡ Err at)
AreStartSets net (Err Halt.Memory) = Unit {0}

-- the flows and slopes are settled, or are no thin flow, or this operation passes
abbrev pub SettlesAtStart : Network → GivenFlows → Result (Option Settled) (Halt ℚ) → Type 0
SettlesAtStart net given (Ok (Some s)) = AtStartLabels net (λ labels. AreSettled net labels given s.pattern s.flows.items)
SettlesAtStart net given (Ok None) = AtStartLabels net (λ labels. AreNotThin net labels given)
SettlesAtStart net given (Err (Halt.Passed at)) = AtStartLabels net (λ labels. PassesFirst net labels given at)
SettlesAtStart net given (Err Halt.Memory) = Unit {0}
