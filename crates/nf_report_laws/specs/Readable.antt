-- Readable reports: their numbers are fractions of a file, and their counts have at most 64 bits.
use Rattle.std.specs.Prelude.{ℕ, ◌<◌, ◌^◌, List, Option, Some, None}
use Rattle.std.specs.List.{AllByRecursion}
use Rattle.nf_rational.specs.Rational.{ℚ}
use Rattle.nf_model.specs.Curve.{Point}
use Rattle.nf_model.specs.Equilibrium.{Trace}
use Rattle.nf_net_def.specs.declared.Cause.{Cause}
use Rattle.nf_net_def.specs.declared.Cause.TheVariants.{Phases, Patterns, Passed, NoPattern}
use Rattle.nf_net_def.specs.WellNamed.{IsFraction}
use Rattle.nf_net_def.specs.Report.{Report}

abbrev pub IsCount : ℕ → Type 0
IsCount k = k < 2 ^ 64

abbrev pub IsCountOrNone : Option ℕ → Type 0
IsCountOrNone None = Unit {0}
IsCountOrNone (Some k) = IsCount k

abbrev pub IsFractionOrNone : Option ℚ → Type 0
IsFractionOrNone None = Unit {0}
IsFractionOrNone (Some q) = IsFraction q

abbrev pub IsFractionPoint : Point → Type 0
IsFractionPoint p = IsFraction p.0 × IsFraction p.1

abbrev pub AreFractionPoints : List Point → Type 0
AreFractionPoints points = AllByRecursion IsFractionPoint points

abbrev pub IsFractionTrace : Trace → Type 0
IsFractionTrace trace = AreFractionPoints trace.points × AllByRecursion IsFraction trace.rates

abbrev pub IsReadableCause : Option (Cause ℚ) → Type 0
IsReadableCause None = Unit {0}
IsReadableCause (Some (Phases made)) = IsCount made
IsReadableCause (Some (Patterns phase tried)) = IsCount phase × IsCount tried
IsReadableCause (Some (Passed phase place at)) = IsCount phase × IsCountOrNone place × IsFraction at.left × IsFraction at.right
IsReadableCause (Some (NoPattern phase)) = IsCount phase

pub record IsReadable (report : Report) : Type 0 where
  pub horizon : IsFraction report.horizon
  pub reached : IsFraction report.flow.reached
  pub stop : IsReadableCause report.stop
  pub labels : AllByRecursion AreFractionPoints report.flow.labels
  pub inflows : AllByRecursion IsFractionTrace report.flow.inflows
  pub outflows : AllByRecursion IsFractionTrace report.flow.outflows
  pub queues : AllByRecursion AreFractionPoints report.flow.queues
