-- The two parts of a report: its head, and what comes after it.
use Rattle.std.specs.Prelude.{ℕ, List, [], ◌∷◌, ◌++◌, length, Option, codes}
use Rattle.nf_rational.specs.Rational.{ℚ}
use Rattle.nf_model.specs.Equilibrium.{Flow}
use Rattle.nf_model.specs.Pattern.{Pattern}
use Rattle.nf_frac_words.specs.Digits.{digits_of}
use Rattle.nf_frac_words.specs.Printed.{printed}
use Rattle.nf_net_def.specs.declared.Cause.{Cause}
use Rattle.nf_net_def.specs.Causes.{cause_words}
use Rattle.nf_net_def.specs.Named.{Named}
use Rattle.nf_net_def.specs.Report.{for_each, state_lines}
use Rattle.nf_report_pages.specs.Written.{Line, flow_lines}

abbrev pub head_lines : ℕ → ℚ → ℚ → Option (Cause ℚ) → List Line
head_lines version horizon reached stop = (codes "report" ∷ digits_of version ∷ [])
    ∷ (codes "horizon" ∷ printed horizon ∷ [])
    ∷ (codes "reached" ∷ printed reached ∷ [])
    ∷ (codes "cause" ∷ cause_words stop)
    ∷ []

-- what comes after the head: the flow, the states of the links that have one, and the end
abbrev pub body_lines : Named → Flow → Pattern → List Line
body_lines n flow last = flow_lines n flow ++ for_each (length n.net.links) (state_lines n last) ++ (codes "end" ∷ []) ∷ []
