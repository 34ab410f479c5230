-- The fault of a step for each fault of its parts.
use Rattle.nf_rational.specs.Rational.{ℚ}
use Rattle.nf_frac_def.specs.declared.Halt.{Halt}
use Rattle.nf_thin.specs.declared.fault.SearchFault.{SearchFault}
use Rattle.nf_phase.specs.declared.fault.StepFault.{StepFault}

abbrev pub of_halt : Halt ℚ → StepFault
of_halt (Halt.Passed at) = StepFault.Passed at
of_halt Halt.Memory = StepFault.Memory

abbrev pub of_search : SearchFault → StepFault
of_search (SearchFault.Budget tried) = StepFault.Search (SearchFault.Budget tried)
of_search (SearchFault.Passed place at) = StepFault.Search (SearchFault.Passed place at)
of_search SearchFault.NoPattern = StepFault.Search SearchFault.NoPattern
of_search SearchFault.Memory = StepFault.Memory
