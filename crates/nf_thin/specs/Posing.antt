-- What a search is asked, and the results of its steps.
use Rattle.std.specs.Prelude.{Option, Result}
use Rattle.nf_frac_def.specs.Passing.{passes_Q}
use Rattle.nf_model.specs.Pattern.{Pattern}
use Rattle.nf_thin_def.specs.Search.{SearchAnswer, IsSearch}
use Rattle.nf_thin.specs.declared.problem.Problem.{Problem}
use Rattle.nf_thin.specs.declared.sifting.Guide.{Guide}
use Rattle.nf_thin_one.specs.declared.thin.ThinFlow.{ThinFlow}
use Rattle.nf_thin.specs.declared.vain.Vain.{Vain}
use Rattle.nf_thin.specs.declared.fault.SearchFault.{SearchFault}
use Rattle.nf_thin.specs.Searching.{TriesNext}
use Rattle.nf_thin.specs.Sifting.{Guides, SiftsNext}
use Rattle.nf_thin.specs.Finding.{NarrowFinds}

-- The definition of a search gives this answer.
abbrev pub IsAnswerTo : Problem → SearchAnswer → Type 0
IsAnswerTo problem =
    IsSearch passes_Q problem.ranking.net.now.net problem.ranking.sets.now problem.rate problem.ranking.base.now problem.ranking.budget

-- The guide is right.
abbrev pub GuidesFor : Problem → Guide → Type 0
GuidesFor problem guide = Guides passes_Q problem.ranking.net.now.net problem.ranking.sets.now problem.rate guide

-- The next pattern is tried.
abbrev pub TriesFor : Problem → Pattern → Vain → Vain → Result (Option ThinFlow) SearchFault → Type 0
TriesFor problem pattern before after result =
    TriesNext passes_Q problem.ranking.net.now.net problem.ranking.sets.now problem.rate problem.ranking.budget pattern before after result

-- The next pattern is sifted.
abbrev pub SiftsFor : Problem → Pattern → Vain → Vain → Result (Option ThinFlow) SearchFault → Type 0
SiftsFor problem pattern before after result =
    SiftsNext passes_Q problem.ranking.net.now.net problem.ranking.sets.now problem.rate problem.ranking.budget pattern before after result

-- The narrow search has this result.
abbrev pub NarrowFindsFor : Problem → Pattern → Result (Option ThinFlow) SearchFault → Type 0
NarrowFindsFor problem forced result =
    NarrowFinds passes_Q problem.ranking.net.now.net problem.ranking.sets.now problem.rate problem.ranking.base.now forced
    problem.ranking.budget result
