-- The parts of the text of a run without a horizon.
use Rattle.std.specs.Prelude.{List, [], ◌∷◌, ◌++◌, length, Option, codes}
use Rattle.nf_rational.specs.Rational.{ℚ}
use Rattle.nf_frac_words.specs.Printed.{printed}
use Rattle.nf_net_def.specs.declared.Cause.{Cause}
use Rattle.nf_net_def.specs.Causes.{cause_words}
use Rattle.nf_net_def.specs.Named.{Named}
use Rattle.nf_net_def.specs.Report.{for_each, state_lines}
use Rattle.nf_report_pages.specs.Written.{Line}
use Rattle.nf_forever_def.specs.ForeverRun.{Forever}
use Rattle.nf_forever_def.specs.ForeverText.{tail_lines}

-- The first lines: the departure reached, and why the run stopped.
abbrev pub head_lines : ℚ → Option (Cause ℚ) → List Line
head_lines reached stop = (codes "forever" ∷ codes "1" ∷ []) ∷ (codes "reached" ∷ printed reached ∷ [])
    ∷ (codes "cause" ∷ cause_words stop) ∷ []

-- The last lines: the states of the links, the tail, and the end.
abbrev pub end_lines : Named → Forever → List Line
end_lines n forever = for_each (length n.net.links) (state_lines n forever.last) ++ tail_lines n forever.tail ++ (codes "end" ∷ []) ∷ []
