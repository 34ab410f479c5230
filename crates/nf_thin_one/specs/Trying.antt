-- What comes of one pattern.
use Rattle.std.specs.Prelude.{◌≡◌, List, Option, Some, None, Result, Ok, Err, IsOk}
use Rattle.nf_rational.specs.Rational.{ℚ}
use Rattle.nf_frac_def.specs.Passing.{Passing}
use Rattle.nf_frac_def.specs.declared.PassedAt.{PassedAt}
use Rattle.nf_frac_def.specs.declared.Halt.{Halt}
use Rattle.nf_frac_def.specs.declared.Part.TheVariants.{Table}
use Rattle.nf_frac_def.specs.Checked.{at_part}
use Rattle.nf_model.specs.Network.{Network}
use Rattle.nf_model.specs.ThinFlow.{Sets}
use Rattle.nf_model.specs.Pattern.{Pattern, Meets, IsSolution, IsSolvable}
use Rattle.nf_linear_def.specs.Table.{table_list}
use Rattle.nf_thin_def.specs.Equations.{equations}
use Rattle.nf_thin_def.specs.Accepted.{pattern_lists, IsAccepted}
use Rattle.nf_thin_one.specs.declared.trying.Tried.{Tried}
use Rattle.nf_thin_one.specs.declared.thin.ThinFlow.{ThinFlow}

-- the table of a pattern has one solution, with these values
abbrev pub AreValuesOf : Passing → Network → Sets → ℚ → Pattern → List ℚ → Type 0
AreValuesOf passes net sets rate pattern values = at_part Table (table_list passes (equations net sets rate pattern)) ≡ Ok (Some values)

-- The second thin flow is a copy of the first.
pub record IsCopy (first copied : ThinFlow) : Type 0 where
  pub pattern_is : copied.pattern ≡ first.pattern
  pub flows_are : copied.flows.items ≡ first.flows.items
  pub slopes_are : copied.slopes.items ≡ first.slopes.items

-- accepted are these flows and slopes, if they meet the inequalities of the pattern
abbrev pub JudgesValues : Network → Pattern → List ℚ → List ℚ → Result (List (Option ℚ)) (PassedAt ℚ) → Result (Option ThinFlow) (Halt ℚ) → Type 0
JudgesValues net pattern flows slopes list (Ok (Some found)) = IsOk list × (found.flows.items ≡ flows) × (found.slopes.items ≡ slopes)
    × (found.pattern ≡ pattern) × Meets net pattern flows slopes
JudgesValues net pattern flows slopes list (Ok None) = IsOk list × (Meets net pattern flows slopes → ⊥)
JudgesValues net pattern flows slopes list (Err (Halt.Passed at)) = list ≡ Err at
JudgesValues net pattern flows slopes list (Err Halt.Memory) = Unit {0}

-- accepted is a pattern with these flows and slopes, if they meet its inequalities
abbrev pub JudgesFlows : Network → Pattern → List ℚ → List ℚ → Result (List (Option ℚ)) (PassedAt ℚ) → Result Tried (PassedAt ℚ) → Type 0
JudgesFlows net pattern flows slopes list (Ok Tried.Accepted) = IsOk list × Meets net pattern flows slopes
JudgesFlows net pattern flows slopes list (Ok Tried.NotSolvable) = IsOk list × (Meets net pattern flows slopes → ⊥)
JudgesFlows net pattern flows slopes list (Err at) = list ≡ Err at

-- a pattern is accepted, and these are the flows and slopes of its only solution; or it is not solvable; or the first of its
-- operations that passes
abbrev pub TriesInto : Passing → Network → Sets → ℚ → Pattern → List ℚ → List ℚ → Result Tried (PassedAt ℚ) → Type 0
TriesInto passes net sets rate pattern flows slopes (Ok Tried.Accepted) = IsAccepted passes net sets rate pattern
    × IsSolution net sets rate pattern flows slopes
TriesInto passes net sets rate pattern flows slopes (Ok Tried.NotSolvable) = IsOk (pattern_lists passes net sets rate pattern)
    × (IsSolvable net sets rate pattern → ⊥)
TriesInto passes net sets rate pattern flows slopes (Err at) = pattern_lists passes net sets rate pattern ≡ Err at

-- a pattern is accepted with its only solution, or not solvable; or the first of its operations that passes
abbrev pub TriesOne : Passing → Network → Sets → ℚ → Pattern → Result (Option ThinFlow) (Halt ℚ) → Type 0
TriesOne passes net sets rate pattern (Ok (Some found)) = (found.pattern ≡ pattern) × IsAccepted passes net sets rate pattern
    × IsSolution net sets rate pattern found.flows.items found.slopes.items
TriesOne passes net sets rate pattern (Ok None) = IsOk (pattern_lists passes net sets rate pattern)
    × (IsSolvable net sets rate pattern → ⊥)
TriesOne passes net sets rate pattern (Err (Halt.Passed at)) = pattern_lists passes net sets rate pattern ≡ Err at
TriesOne passes net sets rate pattern (Err Halt.Memory) = Unit {0}
