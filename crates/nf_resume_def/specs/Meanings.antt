-- The meaning of resuming a report.
use Rattle.std.specs.Prelude.{◌≡◌, ℕ, ◌<◌, ◌≤◌, Option, Ok, IsOk}
use Rattle.nf_rational.specs.Rational.{ℚ}
use Rattle.nf_rational.specs.Operations.{0ℚ}
use Rattle.nf_rational.specs.Order.{◌≤ℚ◌}
use Rattle.nf_frac_def.specs.Passing.{Passing}
use Rattle.nf_model.specs.Curve.{Within}
use Rattle.nf_model.specs.Network.{Link, Network, IsLink}
use Rattle.nf_model.specs.Pattern.{Pattern}
use Rattle.nf_model.specs.Equilibrium.{Flow, label, inflow, outflow, queue}
use Rattle.nf_net_def.specs.declared.Cause.{Cause}
use Rattle.nf_net_def.specs.Report.{Report}
use Rattle.nf_thin_def.specs.Accepted.{pattern_lists}
use Rattle.nf_thin_def.specs.Listing.{HasPlace}
use Rattle.nf_thin_def.specs.PhaseRun.{Standing, Bounds, Goes, report_of}
use Rattle.nf_model.specs.Network.{rate_at}
use Rattle.nf_model.specs.ThinFlow.{sets_at}
use Rattle.nf_phase_def.specs.Open.{RunsOn}
use Rattle.nf_resume_def.specs.Resuming.{Stands, resume_list}

-- A flow continues another one: it reaches at least as far, and has the same values up to where the other flow ends.
pub record GoesOnFrom (net : Network) (old new : Flow) : Type 0 where
  pub reached : old.reached ≤ℚ new.reached
  pub labels : (v : ℕ) (departure : ℚ) → v < net.nodes → Within 0ℚ old.reached departure → label new v departure ≡ label old v departure
  pub inflows : (e : ℕ) (link : Link) (time : ℚ) → IsLink net e link → Within 0ℚ (label old link.tail old.reached) time
      → inflow new e time ≡ inflow old e time
  pub outflows : (e : ℕ) (link : Link) (time : ℚ) → IsLink net e link → Within 0ℚ (label old link.head old.reached) time
      → outflow new e time ≡ outflow old e time
  pub queues : (e : ℕ) (link : Link) (time : ℚ) → IsLink net e link → Within 0ℚ (label old link.tail old.reached) time
      → queue new e time ≡ queue old e time

-- A resumed run: it starts from the state at the report's end, and counts its phases from there.
pub record IsResumed (passes : Passing) (net : Network) (bounds : Bounds) (old : Report) (last : Standing)
    (stop : Option (Cause ℚ)) : Type 0 where
  pub first : Standing
  pub stands : resume_list passes net old ≡ Ok (Stands first)
  pub runs : RunsOn passes net bounds first last stop

-- The report of a resumed run, with the number of its phases.
pub record IsResumedReport (passes : Passing) (net : Network) (bounds : Bounds) (old : Report) (phases : ℕ) (report : Report) : Type 0 where
  pub last : Standing
  pub stop : Option (Cause ℚ)
  pub run : IsResumed passes net bounds old last stop
  pub made : last.made ≡ phases
  pub report_is : report ≡ report_of bounds.horizon last stop

-- ---- no operation of a table or verdict list exceeds its bound
-- In a phase: for each pattern that is tried.
abbrev pub NonePassesIn : (passes : Passing) (net : Network) (horizon : ℚ) (patterns : ℕ) (s t : Standing)
    → Goes passes net horizon patterns s t → Type 0
NonePassesIn passes net horizon patterns s t g = (place : ℕ) (pattern : Pattern) → place ≤ g.place
    → HasPlace g.finds.search.is_search.listing place pattern
    → IsOk (pattern_lists passes net (sets_at net s.labels) (rate_at net s.time) pattern)
