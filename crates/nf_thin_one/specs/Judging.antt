-- What a verdict on flows and slopes finds, and how it goes link by link.
use Rattle.std.specs.Prelude.{◌≡◌, ℕ, ◌<◌, Bool, true, false, ◌&&◌, List, Option, Some, None, slice_get, unwrap_or, Result, Ok, Err, IsOk}
use Rattle.std.specs.List.{enumerate_from}
use Rattle.nf_rational.specs.Rational.{ℚ}
use Rattle.nf_rational.specs.Operations.{0ℚ}
use Rattle.nf_rational.specs.Order.{◌≤ℚ◌, ◌<ℚ◌, le_ℚ}
use Rattle.nf_frac_def.specs.Passing.{Passing}
use Rattle.nf_frac_def.specs.Checked.{Checked, fold_checked, ◌>>=◌}
use Rattle.nf_frac_def.specs.declared.PassedAt.{PassedAt}
use Rattle.nf_model.specs.declared.State.{State}
use Rattle.nf_model.specs.declared.State.TheVariants.{Tight, Full, Zero}
use Rattle.nf_model.specs.Entries.{number_at}
use Rattle.nf_model.specs.Network.{Link, Network, IsLink}
use Rattle.nf_model.specs.Pattern.{Pattern, Inequality, Meets}
use Rattle.nf_thin_def.specs.Verdict.{bound_on}
use Rattle.nf_thin_one.specs.declared.verdicts.Judged.{Judged}

-- ---- what is found

-- a link has no negative flow, and meets the inequality of its state
pub record MeetsAt (net : Network) (pattern : Pattern) (flows slopes : List ℚ) (e : ℕ) : Type 0 where
  pub no_negative : 0ℚ ≤ℚ number_at flows e
  pub inequality : (link : Link) (state : Option State) → IsLink net e link → slice_get pattern e ≡ Some state
      → Inequality state link.capacity (number_at flows e) (number_at slopes link.tail) (number_at slopes link.head)

abbrev pub NoneNegativeBefore : List ℚ → ℕ → Type 0
NoneNegativeBefore slopes v = (w : ℕ) → w < v → 0ℚ ≤ℚ number_at slopes w

-- the first node with a slope below 0
pub record IsFirstNegative (slopes : List ℚ) (v : ℕ) : Type 0 where
  pub negative : number_at slopes v <ℚ 0ℚ
  pub first : NoneNegativeBefore slopes v

-- no slope is below 0, and this is the first link that fails
pub record IsFirstFailing (net : Network) (pattern : Pattern) (flows slopes : List ℚ) (e : ℕ) : Type 0 where
  pub no_negative : (v : ℕ) → 0ℚ ≤ℚ number_at slopes v
  pub fails : MeetsAt net pattern flows slopes e → ⊥
  pub first : (before : ℕ) → before < e → MeetsAt net pattern flows slopes before

abbrev pub IsJudged : Network → Pattern → List ℚ → List ℚ → Judged → Type 0
IsJudged net pattern flows slopes Judged.Meets = Meets net pattern flows slopes
IsJudged net pattern flows slopes (Judged.FailsNode v) = IsFirstNegative slopes v
IsJudged net pattern flows slopes (Judged.FailsLink e) = IsFirstFailing net pattern flows slopes e

-- what is answered where no operation of a list passes, and else the first one that does
abbrev pub Judges : {A B : Type 0} → (B → Type 0) → Result A (PassedAt ℚ) → Result B (PassedAt ℚ) → Type 0
Judges Right list (Ok judged) = IsOk list × Right judged
Judges Right list (Err at) = list ≡ Err at

-- ---- link by link

-- the test of a state's inequality, with a bound on the flow of a Tight link
abbrev pub keeps : Option State → Option ℚ → ℚ → ℚ → ℚ → Bool
keeps (Some Tight) (Some bound) flow tail_slope head_slope = le_ℚ flow bound
keeps (Some Tight) None flow tail_slope head_slope = true
keeps (Some Full) bound flow tail_slope head_slope = le_ℚ tail_slope head_slope
keeps (Some Zero) bound flow tail_slope head_slope = le_ℚ head_slope tail_slope
keeps None bound flow tail_slope head_slope = true

-- the first that fails, after one more
abbrev pub first_failed : Option ℕ → Bool → ℕ → Option ℕ
first_failed (Some first) keeps e = Some first
first_failed None true e = None
first_failed None false e = Some e

module _ (passes : Passing) where
  unfoldable pub link_verdict : Option State → Option ℚ → ℚ → ℚ → ℚ → Checked Bool
  link_verdict state capacity flow tail_slope head_slope = do
    bound ← bound_on passes state capacity head_slope
    Ok (le_ℚ 0ℚ flow && keeps state bound flow tail_slope head_slope)

  -- of a link with its number
  abbrev pub numbered_verdict : Pattern → List ℚ → List ℚ → ℕ × Link → Checked Bool
  numbered_verdict pattern flows slopes (e, link) =
      link_verdict (unwrap_or (slice_get pattern e) None) link.capacity (number_at flows e) (number_at slopes link.tail)
      (number_at slopes link.head)

  abbrev pub broken_after : Pattern → List ℚ → List ℚ → Option ℕ → ℕ × Link → Checked (Option ℕ)
  broken_after pattern flows slopes found numbered = do
    holds ← numbered_verdict pattern flows slopes numbered
    Ok (first_failed found holds numbered.0)

  -- the first link that fails
  unfoldable pub first_broken : Network → Pattern → List ℚ → List ℚ → Checked (Option ℕ)
  first_broken net pattern flows slopes = fold_checked (broken_after pattern flows slopes) None (enumerate_from 0 net.links)
