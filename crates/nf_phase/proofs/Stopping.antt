-- From the fault of a step to the cause that stops the run.
use Rattle.std.proofs.Common.{◌≡◌, ℕ, subst, Some}
use Rattle.nf_phase.proofs.Common.{same_Some, ℚ, Cause, StepFault, IsFaultOf, cause_of}
use Rattle.nf_thin.specs.declared.fault.SearchFault.TheVariants as SearchFault

pub stands_stop : (Causes : Cause ℚ → Type 0) (phase : ℕ) (fault : StepFault) → IsFaultOf Causes phase fault → (cause : Cause ℚ) → cause_of phase fault ≡ Some cause → Causes cause
stands_stop Causes phase (StepFault.Search (SearchFault.Budget tried)) h cause e = subst Causes (same_Some _ cause e) h
stands_stop Causes phase (StepFault.Search (SearchFault.Passed place at)) h cause e = subst Causes (same_Some _ cause e) h
stands_stop Causes phase (StepFault.Search SearchFault.NoPattern) h cause e = subst Causes (same_Some _ cause e) h
stands_stop Causes phase (StepFault.Search SearchFault.Memory) h cause e = absurd h
stands_stop Causes phase (StepFault.Passed at) h cause e = subst Causes (same_Some _ cause e) h
stands_stop Causes phase StepFault.Memory h cause e = absurd (cc)
