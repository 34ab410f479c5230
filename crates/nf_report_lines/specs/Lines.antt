-- Kinds of lines of a report.
use Rattle.std.specs.Prelude.{ℕ, List, Option, Some, None, Result}
use Rattle.nf_rational.specs.Rational.{ℚ}
use Rattle.nf_frac_def.specs.Checked.{◌>>=◌}
use Rattle.nf_text_def.specs.Words.{ReadLine}
use Rattle.nf_model.specs.declared.State.{State}
use Rattle.nf_report_def.specs.declared.ReportRule.{ReportRule}
use Rattle.nf_report_def.specs.declared.ReportRule.TheVariants.{P9}
use Rattle.nf_report_def.specs.ReportCauses.{or_rule}
use Rattle.nf_report_def.specs.ReportLines as lines
use Rattle.nf_report_lines.specs.declared.body.LineKind.{LineKind}

abbrev pub seen_line_kind : LineKind → lines.LineKind
seen_line_kind LineKind.Label = lines.OfCurve lines.OfLabel
seen_line_kind LineKind.Inflow = lines.OfCurve lines.OfInflow
seen_line_kind LineKind.Outflow = lines.OfCurve lines.OfOutflow
seen_line_kind LineKind.Queue = lines.OfCurve lines.OfQueue
seen_line_kind LineKind.Never = lines.OfCurve lines.OfNever
seen_line_kind LineKind.State = lines.OfState
seen_line_kind LineKind.End = lines.OfEnd

-- the words of the next line, if there is one
abbrev pub words_behind : Option ReadLine → Option (List (List ℕ))
words_behind None = None
words_behind (Some line) = Some line.words

-- reads the state of a link with this capacity
abbrev pub state_read : Option ℚ → List ℕ → Result State ReportRule
state_read capacity word = or_rule P9 (lines.state_in word) >>= lines.state_of_link capacity
