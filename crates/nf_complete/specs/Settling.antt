-- Results of testing and settling thin flows.
use Rattle.std.specs.Prelude.{◌≡◌, Bool, List, Option, Result, Ok, Err, IsOk}
use Rattle.nf_rational.specs.Rational.{ℚ}
use Rattle.nf_frac_def.specs.Passing.{Passing}
use Rattle.nf_frac_def.specs.Checked.{Checked, at_part, placed}
use Rattle.nf_frac_def.specs.declared.Passed.{Passed}
use Rattle.nf_frac_def.specs.declared.PassedAt.{PassedAt}
use Rattle.nf_frac_def.specs.declared.Halt.{Halt}
use Rattle.nf_frac_def.specs.declared.Part.TheVariants.{Verdict}
use Rattle.nf_model.specs.Network.{Network}
use Rattle.nf_model.specs.ThinFlow.{Sets, IsThinFlow}
use Rattle.nf_complete_def.specs.Cancelling.{fulls_list, Settles}
use Rattle.nf_complete_def.specs.ThinList.{thin_list}
use Rattle.nf_complete.specs.declared.settled.Settled.{Settled}

-- the flows are a thin flow with these slopes, and `fulls` holds for each link the flow that fills it
pub record IsThinWithFulls (passes : Passing) (net : Network) (sets : Sets) (slopes : List ℚ) (fulls : List (Option ℚ)) (flows : List ℚ) : Type 0 where
  pub rate : ℚ
  pub thin : IsThinFlow net sets rate flows slopes
  pub filled : fulls_list passes net sets slopes ≡ Ok fulls

-- no operation of the sequence passes, or the error is the first one that passes
abbrev pub Passes : Passing → Network → Sets → ℚ → List ℚ → List ℚ → Result Bool (PassedAt ℚ) → Type 0
Passes passes net sets rate flows slopes (Ok answer) = IsOk (thin_list passes net sets rate flows slopes)
Passes passes net sets rate flows slopes (Err at) = at_part Verdict (thin_list passes net sets rate flows slopes) ≡ Err at

-- the result is one that the relation allows: flows, or the first operation that passes; nothing is said if an allocation fails
abbrev pub GivesOneOf : {X : Type 0} → (Checked (List ℚ) → Type 0) → (X → List ℚ) → Result X (Halt ℚ) → Type 0
GivesOneOf Comes flows_of (Ok x) = Comes (Ok (flows_of x))
GivesOneOf Comes flows_of (Err (Halt.Passed at)) = (p : Passed ℚ) × Comes (Err p) × (at ≡ placed Verdict p)
GivesOneOf Comes flows_of (Err Halt.Memory) = Unit {0}

-- the flows are settled to the result's flows, or its error is the first operation that passes
abbrev pub SettlesTo : Passing → Network → Sets → List ℚ → List ℚ → Result Settled (Halt ℚ) → Type 0
SettlesTo passes net sets slopes flows result = GivesOneOf (Settles passes net sets slopes flows) (λ settled. settled.flows.items) result
