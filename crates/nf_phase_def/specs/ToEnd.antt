-- Phases of greatest length, in runs without a horizon. A phase that can have any length is the tail of the run.
use Rattle.std.specs.Prelude.{◌≡◌, ℕ, suc, List, Option, Some, None, Ok, Err}
use Rattle.nf_rational.specs.Rational.{ℚ}
use Rattle.nf_frac_def.specs.Passing.{Passing}
use Rattle.nf_frac_def.specs.Checked.{Checked, checked, placed, ◌>>=◌}
use Rattle.nf_frac_def.specs.declared.Op.TheVariants.{Sum}
use Rattle.nf_frac_def.specs.declared.Part.TheVariants.{Slack, Extend}
use Rattle.nf_frac_def.specs.declared.Passed.{Passed}
use Rattle.nf_frac_def.specs.declared.PassedAt.{PassedAt}
use Rattle.nf_model.specs.Network.{Network, hops, rate_at}
use Rattle.nf_model.specs.ThinFlow.{slacks_of, sets_at}
use Rattle.nf_model.specs.Pattern.{Pattern, IsBase}
use Rattle.nf_net_def.specs.declared.Cause.{Cause}
use Rattle.nf_thin_def.specs.Slack.{slack_list}
use Rattle.nf_thin_def.specs.Extend.{extend_list}
use Rattle.nf_thin_def.specs.Search.{SearchAnswer, Found, IsSearch}
use Rattle.nf_thin_def.specs.PhaseRun.{Standing, Goes, cause_of_search, phase_lists}

-- The tail: a last phase that never ends, with the slope of each node's label and the flow of each link per unit of departure.
pub record Tail : Type 0 where
  pub slopes : List ℚ
  pub flows : List ℚ

module _ (passes : Passing) where
  -- The departure at which a phase of greatest length ends, or None if it can have any length.
  abbrev pub end_after : ℚ → Option ℚ → Checked (Option ℚ)
  end_after time None = Ok None
  end_after time (Some length) = do
    end ← checked passes Sum time length
    Ok (Some end)

  -- The extend list of a run without a horizon: the greatest length of the phase, and then its end.
  unfoldable pub end_list : Network → List ℚ → List ℚ → ℚ → Checked (Option ℚ)
  end_list net slacks slopes time = do
    length ← extend_list passes net slacks slopes time
    end_after time length

-- ---- one phase
module _ (passes : Passing) (net : Network) (patterns : ℕ) where
  -- No operation of the slack list exceeds its bound, so a pattern is searched for the sets of the slacks and the rate.
  pub record SeeksOn (s : Standing) (answer : SearchAnswer) : Type 0 where
    pub slacks : slack_list passes (hops net) s.labels ≡ Ok (slacks_of (hops net) s.labels)
    pub base : Pattern
    pub is_base : IsBase (hops net) (sets_at net s.labels) s.last base
    pub is_search : IsSearch passes net (sets_at net s.labels) (rate_at net s.time) base patterns answer

  -- A phase of greatest length is added: one to the horizon at which it ends.
  pub record GoesToEnd (s new : Standing) : Type 0 where
    pub end : ℚ
    pub goes : Goes passes net end patterns s new
    pub is_end : end_list passes net (slacks_of (hops net) s.labels) goes.slopes s.time ≡ Ok (Some end)

  -- The next phase is the tail: it can have any length.
  pub record GoesForever (s : Standing) (pattern : Pattern) (tail : Tail) : Type 0 where
    pub place : ℕ
    pub finds : SeeksOn s (Found place pattern tail.flows tail.slopes)
    pub no_end : end_list passes net (slacks_of (hops net) s.labels) tail.slopes s.time ≡ Ok None

  -- The first cause for which no phase can be computed, as with a horizon.
  pub data FailsOn (s : Standing) : Cause ℚ → Type 0 where
    at_slack : (p : Passed ℚ) → slack_list passes (hops net) s.labels ≡ Err p → FailsOn s (Cause.Passed (suc s.made) None (placed Slack p))
    at_search : (answer : SearchAnswer) (cause : Cause ℚ) → SeeksOn s answer → cause_of_search (suc s.made) patterns answer ≡ Some cause
        → FailsOn s cause
    at_extend : (place : ℕ) (pattern : Pattern) (flows slopes : List ℚ) (p : Passed ℚ) → SeeksOn s (Found place pattern flows slopes)
        → end_list passes net (slacks_of (hops net) s.labels) slopes s.time ≡ Err p
        → FailsOn s (Cause.Passed (suc s.made) None (placed Extend p))
    at_lists : (place : ℕ) (pattern : Pattern) (flows slopes : List ℚ) (end : ℚ) (p : PassedAt ℚ)
        → SeeksOn s (Found place pattern flows slopes)
        → end_list passes net (slacks_of (hops net) s.labels) slopes s.time ≡ Ok (Some end)
        → phase_lists passes net end s pattern flows slopes ≡ Err p
        → FailsOn s (Cause.Passed (suc s.made) None p)
