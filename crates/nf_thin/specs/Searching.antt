-- The result of a search, and one step of it.
use Rattle.std.specs.Prelude.{◌≡◌, ◌⊎◌, ℕ, suc, ◌<◌, List, Option, Some, None, Result, Ok, Err, IsOk}
use Rattle.nf_rational.specs.Rational.{ℚ}
use Rattle.nf_frac_def.specs.Passing.{Passing}
use Rattle.nf_frac_def.specs.declared.PassedAt.{PassedAt}
use Rattle.nf_model.specs.Network.{Network}
use Rattle.nf_model.specs.ThinFlow.{Sets, IsThinFlow}
use Rattle.nf_model.specs.Pattern.{Pattern, IsSolution}
use Rattle.nf_thin_def.specs.Accepted.{pattern_lists, IsAccepted}
use Rattle.nf_thin_def.specs.Search.{SearchAnswer, Found, OverBudget, PassesAt, NoPattern}
use Rattle.nf_thin_laws.specs.ActiveLinks.{HoldNoCycle}
use Rattle.nf_thin.specs.declared.thin.Thin.{Thin}
use Rattle.nf_thin_one.specs.declared.thin.ThinFlow.{ThinFlow}
use Rattle.nf_thin.specs.declared.vain.Vain.{Vain}
use Rattle.nf_thin.specs.declared.fault.SearchFault.{SearchFault}
use Rattle.nf_thin.specs.FirstPassing.{or_first}

-- The result is the answer of the definition, unless an allocation failed.
abbrev pub Searches : (SearchAnswer → Type 0) → ℕ → Result Thin SearchFault → Type 0
Searches Answers budget (Ok thin) = Answers (Found thin.place thin.pattern thin.flows.items thin.labels.items)
Searches Answers budget (Err (SearchFault.Budget tried)) = (tried ≡ budget) × Answers OverBudget
Searches Answers budget (Err (SearchFault.Passed place at)) = Answers (PassesAt place at)
Searches Answers budget (Err SearchFault.NoPattern) = Answers NoPattern
Searches Answers budget (Err SearchFault.Memory) = Unit {0}

-- If the active links hold no cycle, every thin flow has these slopes.
abbrev pub SlopesAreOnly : Network → Sets → ℚ → List ℚ → Type 0
SlopesAreOnly net sets rate slopes = HoldNoCycle net sets → (flows other : List ℚ) → IsThinFlow net sets rate flows other → other ≡ slopes

-- ---- one step

module _ (passes : Passing) (net : Network) (sets : Sets) (rate : ℚ) (pattern : Pattern) where
  -- No operation of this pattern passes, or its first passing operation is recorded with its place, unless there is an earlier record.
  abbrev pub Noted : Option (ℕ × PassedAt ℚ) → Option (ℕ × PassedAt ℚ) → ℕ → Type 0
  Noted before after place =
      (IsOk (pattern_lists passes net sets rate pattern) × (after ≡ before))
      ⊎ ((at : PassedAt ℚ) × (pattern_lists passes net sets rate pattern ≡ Err at) × (after ≡ or_first before (place, at)))

  -- The pattern is rejected.
  pub record InVain (before after : Vain) : Type 0 where
    pub one_more : after.tried ≡ suc before.tried
    pub not_accepted : IsAccepted passes net sets rate pattern → ⊥
    pub noted : Noted before.passed after.passed (suc before.tried)

  -- The pattern is accepted, at the next place.
  pub record IsFound (before after : Vain) (found : ThinFlow) : Type 0 where
    pub place : after.tried ≡ suc before.tried
    pub pattern_is : found.pattern ≡ pattern
    pub accepted : IsAccepted passes net sets rate pattern
    pub solution : IsSolution net sets rate pattern found.flows.items found.slopes.items

-- The result of one step: `Rejects` holds without a thin flow, and `Finds` of a thin flow. The step is refused if the budget is spent.
abbrev pub Steps : Type 0 → (ThinFlow → Type 0) → ℕ → Vain → Result (Option ThinFlow) SearchFault → Type 0
Steps Rejects Finds budget before (Ok None) = (before.tried < budget) × Rejects
Steps Rejects Finds budget before (Ok (Some found)) = (before.tried < budget) × Finds found
Steps Rejects Finds budget before (Err (SearchFault.Budget tried)) = (before.tried ≡ budget) × (tried ≡ budget)
Steps Rejects Finds budget before (Err (SearchFault.Passed place at)) = ⊥
Steps Rejects Finds budget before (Err SearchFault.NoPattern) = ⊥
Steps Rejects Finds budget before (Err SearchFault.Memory) = Unit {0}

abbrev pub TriesNext : Passing → Network → Sets → ℚ → ℕ → Pattern → Vain → Vain → Result (Option ThinFlow) SearchFault → Type 0
TriesNext passes net sets rate budget pattern before after =
    Steps (InVain passes net sets rate pattern before after) (IsFound passes net sets rate pattern before after) budget before
