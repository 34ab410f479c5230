-- Results of the loading code, as values of the definitions.
use Rattle.std.specs.Prelude.{List, [], ◌∷◌, Option, Some, None}
use Rattle.nf_load_def.specs.Loading as lists
use Rattle.nf_load.specs.declared.waiting.Over.{Over}
use Rattle.nf_load.specs.declared.loading.Loaded.{Loaded}

abbrev pub before_end : Option lists.Waits → lists.Waits → List lists.Waits
before_end None end = end ∷ []
before_end (Some empty) end = empty ∷ end ∷ []

abbrev pub over_list : Over → List lists.Waits
over_list o = before_end o.empty o.end

abbrev pub loaded_of : Loaded → lists.Loaded
loaded_of l = record { queue = l.queue.points; outflow = l.outflow.points; exit = l.exit.points }
