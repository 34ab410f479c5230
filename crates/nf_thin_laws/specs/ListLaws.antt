-- Theorems on all networks. There is at most one listing, one answer of a search, and one report of a run. The curves of a run end at its
-- labels, and operation sequences give exact values.
use Rattle.std.specs.Prelude.{◌≡◌, ℕ, Bool, false, List, length, Option, Ok}
use Rattle.nf_rational.specs.Rational.{ℚ}
use Rattle.nf_rational.specs.Operations.{◌-ℚ◌}
use Rattle.nf_frac_def.specs.Passing.{Passing, never}
use Rattle.nf_model.specs.Walk.{Hop}
use Rattle.nf_model.specs.Network.{Network, IsNetwork}
use Rattle.nf_model.specs.ThinFlow.{Sets, slacks_of}
use Rattle.nf_model.specs.Pattern.{Pattern}
use Rattle.nf_model.specs.Phases.{moved}
use Rattle.nf_net_def.specs.declared.Cause.{Cause}
use Rattle.nf_net_def.specs.Report.{Report}
use Rattle.nf_thin_def.specs.Slack.{slack_list}
use Rattle.nf_linear_def.specs.Table.{Row, table_list}
use Rattle.nf_thin_def.specs.Verdict.{verdict_list}
use Rattle.nf_thin_def.specs.Extend.{extend_list}
use Rattle.nf_thin_def.specs.Advance.{Advanced, cut_at, advance_list}
use Rattle.nf_thin_def.specs.CurveList.{LinkStep, curve_list}
use Rattle.nf_thin_def.specs.Listing.{IsListing}
use Rattle.nf_thin_def.specs.Search.{SearchAnswer, IsSearch}
use Rattle.nf_thin_def.specs.PhaseRun.{Standing, Bounds, IsPhaseRun, IsRunReport}
use Rattle.nf_thin_def.specs.Ends.{EndsAtLabels}

abbrev pub ListingIsUnique : Type 0
ListingIsUnique = (nodes source : ℕ) (hops : List Hop) (sets : Sets) (unbounded : List Bool) (base : Pattern) (listing other : List Pattern)
    → IsListing nodes source hops sets unbounded base listing → IsListing nodes source hops sets unbounded base other → listing ≡ other

abbrev pub SearchHasOneAnswer : Type 0
SearchHasOneAnswer = (passes : Passing) (net : Network) (sets : Sets) (rate : ℚ) (base : Pattern) (budget : ℕ) (answer other : SearchAnswer)
    → IsSearch passes net sets rate base budget answer → IsSearch passes net sets rate base budget other → answer ≡ other

abbrev pub RunHasOneReport : Type 0
RunHasOneReport = (passes : Passing) (net : Network) (bounds : Bounds) (report other : Report) → IsRunReport passes net bounds report
    → IsRunReport passes net bounds other → report ≡ other

abbrev pub RunEndsAtLabels : Type 0
RunEndsAtLabels = (passes : Passing) (net : Network) (bounds : Bounds) (last : Standing) (stop : Option (Cause ℚ)) → IsNetwork net
    → IsPhaseRun passes net bounds last stop → EndsAtLabels net last

-- ---- if no operation of a sequence passes, its value is exact

-- If no operation of a sequence passes, its value is the one that it has if no operation can pass.
pub record ValuesAreExact : Type 0 where
  pub slack : (passes : Passing) (hops : List Hop) (labels slacks : List ℚ) → slack_list passes hops labels ≡ Ok slacks
      → slack_list never hops labels ≡ Ok slacks
  pub table : (passes : Passing) (rows : List Row) (values : Option (List ℚ)) → table_list passes rows ≡ Ok values
      → table_list never rows ≡ Ok values
  pub verdict : (passes : Passing) (net : Network) (pattern : Pattern) (slopes : List ℚ) (limits : List (Option ℚ))
      → verdict_list passes net pattern slopes ≡ Ok limits → verdict_list never net pattern slopes ≡ Ok limits
  pub extend : (passes : Passing) (net : Network) (slacks slopes : List ℚ) (time : ℚ) (extension : Option ℚ)
      → extend_list passes net slacks slopes time ≡ Ok extension → extend_list never net slacks slopes time ≡ Ok extension
  pub advance : (passes : Passing) (horizon time : ℚ) (extension : Option ℚ) (labels slopes : List ℚ) (new : Advanced)
      → advance_list passes horizon time extension labels slopes ≡ Ok new → advance_list never horizon time extension labels slopes ≡ Ok new
  pub curve : (passes : Passing) (net : Network) (sets : Sets) (pattern : Pattern) (length : ℚ) (flows slopes labels amounts : List ℚ)
      (steps : List LinkStep)
      → curve_list passes net sets pattern length flows slopes labels amounts ≡ Ok steps
      → curve_list never net sets pattern length flows slopes labels amounts ≡ Ok steps

-- The slack operations give the slacks. The advance operations give the extension length, cut at the remaining time to the horizon, and the
-- labels moved for that length.
pub record StepsAreTheModels : Type 0 where
  pub slacks : (passes : Passing) (hops : List Hop) (labels slacks : List ℚ) → slack_list passes hops labels ≡ Ok slacks
      → slacks ≡ slacks_of hops labels
  pub advanced : (passes : Passing) (horizon time : ℚ) (extension : Option ℚ) (labels slopes : List ℚ) (new : Advanced)
      → length slopes ≡ length labels
      → advance_list passes horizon time extension labels slopes ≡ Ok new
      → (new.length ≡ cut_at (horizon -ℚ time) extension) × (new.labels ≡ moved labels slopes new.length)
