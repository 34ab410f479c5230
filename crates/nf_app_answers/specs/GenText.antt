-- The printed answer of `gen`.
use Rattle.std.specs.Prelude.{ℕ, List, [], ◌∷◌, ◌++◌, length, flat_map, Option, codes}
use Rattle.nf_rational.specs.Rational.{ℚ}
use Rattle.nf_frac_words.specs.Digits.{digits_of}
use Rattle.nf_frac_words.specs.Printed.{printed}
use Rattle.nf_text_def.specs.Words.{line_of_words}
use Rattle.nf_model.specs.Equilibrium.{label}
use Rattle.nf_net_def.specs.declared.Cause.{Cause}
use Rattle.nf_net_def.specs.Causes.{cause_words}
use Rattle.nf_net_def.specs.Named.{Named}
use Rattle.nf_net_def.specs.Report.{Report}

-- the ladder's number and rungs
abbrev pub ladder_lines : ℕ → ℕ → List (List (List ℕ))
ladder_lines number rungs = (codes "gen" ∷ digits_of number ∷ digits_of rungs ∷ []) ∷ []

-- the numbers of nodes and links
abbrev pub size_lines : Named → List (List (List ℕ))
size_lines n = (codes "nodes" ∷ digits_of n.net.nodes ∷ []) ∷ (codes "links" ∷ digits_of (length n.net.links) ∷ []) ∷ []

-- the number of phases, and the departure reached
abbrev pub run_lines : ℕ → ℚ → List (List (List ℕ))
run_lines made reached = (codes "phases" ∷ digits_of made ∷ []) ∷ (codes "reached" ∷ printed reached ∷ []) ∷ []

-- the cause of the run's end, and the arrival of the last departure at the sink
abbrev pub run_end_lines : Option (Cause ℚ) → ℚ → List (List (List ℕ))
run_end_lines stop arrival = (codes "cause" ∷ cause_words stop) ∷ (codes "arrival" ∷ printed arrival ∷ []) ∷ []

-- the label of the sink at the departure reached
abbrev pub last_arrival : Named → Report → ℚ
last_arrival n report = label report.flow n.net.sink report.flow.reached

abbrev pub gen_text : ℕ → ℕ → Named → ℕ → Report → List ℕ
gen_text number rungs n made report = flat_map line_of_words (
    ladder_lines number rungs ++ size_lines n ++ run_lines made report.flow.reached ++ run_end_lines report.stop (last_arrival n report))
