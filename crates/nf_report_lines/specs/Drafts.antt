-- The view of the parser state in contracts.
use Rattle.std.specs.Prelude.{◌≡◌, ℕ, ◌+◌, ◌≤◌, List, [], ◌∷◌, length, drop, Option, Some, None, slice_get}
use Rattle.nf_curve.specs.declared.flow.Trace.{Trace}
use Rattle.nf_net_def.specs.Named.{Named}
use Rattle.nf_report_def.specs.ReportLines as lines
use Rattle.nf_report_def.specs.ReportLines.{CurveKey, ReadCurve, ReportDraft, curve_keys}
use Rattle.nf_report_lines.specs.Keys.{key_at}
use Rattle.nf_report_lines.specs.declared.draft.Stage.{Stage}
use Rattle.nf_report_lines.specs.declared.draft.Stage.TheVariants.{Version, Horizon, Reached, Cause, Body, End}
use Rattle.nf_report_lines.specs.declared.draft.Draft.{Draft}

abbrev pub seen_stage : Stage → lines.Stage
seen_stage Version = lines.AtVersion
seen_stage Horizon = lines.AtHorizon
seen_stage Reached = lines.AtReached
seen_stage Cause = lines.AtCause
seen_stage Body = lines.InBody
seen_stage End = lines.AtEnd

-- ---- curves, by the keys of their numbers
-- returns a curve with its rates, or no points for an idle node
abbrev pub seen_curve : CurveKey → Option Trace → ReadCurve
seen_curve key None = record { key = key; points = []; rates = [] }
seen_curve key (Some trace) = record { key = key; points = trace.curve.points; rates = trace.rates.items }

-- the curves from this number on
abbrev pub seen_done : Named → ℕ → List (Option Trace) → List ReadCurve
seen_done n index [] = []
seen_done n index (curve ∷ curves) = seen_curve (key_at n index) curve ∷ seen_done n (index + 1) curves

abbrev pub seen_current : CurveKey → Option Trace → Option ReadCurve
seen_current key None = None
seen_current key (Some trace) = Some (seen_curve key (Some trace))

-- the number of curves that have begun
abbrev pub with_open : ℕ → Option Trace → ℕ
with_open done None = done
with_open done (Some trace) = done + 1

abbrev pub begun_count : Draft → ℕ
begun_count d = with_open (length d.done.items) d.current

abbrev pub seen_draft : Named → Draft → ReportDraft
seen_draft n d = record {
  stage = seen_stage d.stage;
  horizon = d.horizon;
  reached = d.reached;
  stop = d.stop;
  done = seen_done n 0 d.done.items;
  current = seen_current (key_at n (length d.done.items)) d.current;
  keys = drop (begun_count d) (curve_keys n);
  next_state = d.next_state;
  states = d.states;
}

-- only idle nodes have no curve
abbrev pub LacksIdleOnly : Named → List (Option Trace) → Type 0
LacksIdleOnly n curves = (i : ℕ) → slice_get curves i ≡ Some None → (key_at n i).kind ≡ lines.OfNever

-- the state has at most the network's curves, lacks only those of idle nodes, and has an entry for each link
pub record IsWithinNetwork (n : Named) (draft : Draft) : Type 0 where
  pub curves : begun_count draft ≤ length (curve_keys n)
  pub idle : LacksIdleOnly n draft.done.items
  pub states : length draft.states ≡ length n.net.links
