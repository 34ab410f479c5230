-- Freely combinable states of links, by flags of each link.
use Rattle.std.specs.Prelude.{List, [], ◌∷◌, Option}
use Rattle.nf_model.specs.declared.State.{State}
use Rattle.nf_model.specs.Pattern.{Pattern}
use Rattle.nf_thin_laws.specs.Ways.{Choices}
use Rattle.nf_thin_laws.specs.Firm.{states_by}
use Rattle.nf_thin_narrow.specs.declared.firm.Firm.{Firm}

abbrev pub states_of_firm : Option State → Firm → List (Option State)
states_of_firm b firm = states_by b firm.tight firm.full firm.zero

abbrev pub firm_choices : Pattern → List Firm → Choices
firm_choices [] firm = []
firm_choices (b ∷ base) [] = []
firm_choices (b ∷ base) (f ∷ firm) = states_of_firm b f ∷ firm_choices base firm
