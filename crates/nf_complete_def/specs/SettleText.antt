-- The printed answer of `settle`. The states of the links that have one come first, then the flows of all links.
use Rattle.std.specs.Prelude.{ℕ, List, [], ◌∷◌, ◌++◌, length, flat_map, codes}
use Rattle.nf_rational.specs.Rational.{ℚ}
use Rattle.nf_frac_words.specs.Printed.{printed}
use Rattle.nf_text_def.specs.Words.{line_of_words}
use Rattle.nf_model.specs.Entries.{number_at}
use Rattle.nf_model.specs.Pattern.{Pattern}
use Rattle.nf_net_def.specs.Names.{name_at}
use Rattle.nf_net_def.specs.Named.{Named}
use Rattle.nf_net_def.specs.Report.{for_each, state_lines}

-- `flow LINK X`
abbrev pub flow_line : Named → List ℚ → ℕ → List (List (List ℕ))
flow_line n flows e = (codes "flow" ∷ name_at n.link_names e ∷ printed (number_at flows e) ∷ []) ∷ []

abbrev pub settled_lines : Named → Pattern → List ℚ → List (List (List ℕ))
settled_lines n pattern flows = for_each (length n.net.links) (state_lines n pattern) ++ for_each (length n.net.links) (flow_line n flows)
    ++ (codes "end" ∷ []) ∷ []

abbrev pub settled_text : Named → Pattern → List ℚ → List ℕ
settled_text n pattern flows = flat_map line_of_words (settled_lines n pattern flows)
