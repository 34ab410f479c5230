-- The end of a run without a horizon, as the definitions state it.
use Rattle.nf_phase.specs.Stepping.{tail_by}
use Rattle.nf_forever_def.specs.ForeverRun.{End, Stops, NeverEnds}
use Rattle.nf_forever.specs.declared.solving.End.{End as Told}
use Rattle.nf_forever.specs.declared.solving.End.TheVariants as told

abbrev pub end_in : Told → End
end_in (told.Stops stop) = Stops stop
end_in (told.NeverEnds thin) = NeverEnds thin.pattern (tail_by thin)
