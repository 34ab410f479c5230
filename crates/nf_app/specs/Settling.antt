-- What settling flows and slopes at departure 0 answers.
use Rattle.std.specs.Prelude.{◌≡◌, List, IsOk, Ok, Err}
use Rattle.nf_rational.specs.Rational.{ℚ}
use Rattle.nf_rational.specs.Operations.{0ℚ}
use Rattle.nf_frac_def.specs.Passing.{passes_Q}
use Rattle.nf_frac_def.specs.Checked.{placed}
use Rattle.nf_frac_def.specs.declared.Part.TheVariants.{Slack, Verdict}
use Rattle.nf_frac_def.specs.declared.Passed.{Passed}
use Rattle.nf_frac_def.specs.declared.PassedAt.{PassedAt}
use Rattle.nf_model.specs.Network.{Network, hops, rate_at}
use Rattle.nf_model.specs.ThinFlow.{sets_at, IsThinFlow}
use Rattle.nf_model.specs.Pattern.{Pattern, IsListedIn, IsSolution}
use Rattle.nf_thin_def.specs.Slack.{slack_list}
use Rattle.nf_complete_def.specs.Cancelling.{Settles}
use Rattle.nf_complete_def.specs.SettledPattern.{IsSettledPattern}
use Rattle.nf_complete_def.specs.ThinList.{thin_list}
use Rattle.nf_complete_def.specs.FlowsFile.{GivenFlows}

-- ---- flows and slopes at labels of departure 0: for the sets of their slacks, and the rate then
module _ (net : Network) (labels : List ℚ) (given : GivenFlows) where
  -- no operation of the slack list passes
  abbrev pub SlacksFit : Type 0
  SlacksFit = IsOk (slack_list passes_Q (hops net) labels)

  -- no operation passes in the test whether flows and slopes are a thin flow
  abbrev pub TestFits : Type 0
  TestFits = IsOk (thin_list passes_Q net (sets_at net labels) (rate_at net 0ℚ) given.flows given.slopes)

  -- flows and slopes are a thin flow
  abbrev pub AreThin : Type 0
  AreThin = IsThinFlow net (sets_at net labels) (rate_at net 0ℚ) given.flows given.slopes

  -- No operation passes, they are a thin flow, and it is settled to these flows with this pattern. The pattern is listed, its equations
  -- have just one solution, and that is these flows with the same slopes, which are a thin flow too.
  pub record AreSettled (pattern : Pattern) (settled : List ℚ) : Type 0 where
    pub slacks : SlacksFit
    pub test : TestFits
    pub thin : AreThin
    pub computed : Settles passes_Q net (sets_at net labels) given.slopes given.flows (Ok settled)
    pub pattern_is : IsSettledPattern net (sets_at net labels) settled given.slopes pattern
    pub still_thin : IsThinFlow net (sets_at net labels) (rate_at net 0ℚ) settled given.slopes
    pub listed : IsListedIn net (sets_at net labels) pattern
    pub solution : IsSolution net (sets_at net labels) (rate_at net 0ℚ) pattern settled given.slopes

  -- no operation passes, but they are no thin flow
  pub record AreNotThin : Type 0 where
    pub slacks : SlacksFit
    pub test : TestFits
    pub not_thin : AreThin → ⊥

  -- this operation passes: the first of the slack list; or else of the test; or else, of a thin flow, of the settling
  pub data PassesFirst : PassedAt ℚ → Type 0 where
    at_slack : (p : Passed ℚ) → slack_list passes_Q (hops net) labels ≡ Err p → PassesFirst (placed Slack p)
    at_test : (p : Passed ℚ) → SlacksFit → thin_list passes_Q net (sets_at net labels) (rate_at net 0ℚ) given.flows given.slopes ≡ Err p
        → PassesFirst (placed Verdict p)
    at_settling : (p : Passed ℚ) → SlacksFit → TestFits → AreThin
        → Settles passes_Q net (sets_at net labels) given.slopes given.flows (Err p) → PassesFirst (placed Verdict p)
