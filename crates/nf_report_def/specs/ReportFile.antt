-- A text is a report, or breaks a first rule in some line.
use Rattle.std.specs.Prelude.{ℕ, List, [], ◌∷◌, map, filter, Option, Some, None, Result, Ok, Err}
use Rattle.std.specs.Str.{bytes_eq}
use Rattle.nf_frac_def.specs.Checked.{◌>>=◌}
use Rattle.nf_text_def.specs.Words.{ReadLine, read_lines}
use Rattle.nf_text_def.specs.Faults.{LineFault, NotAscii, LongLine, first_fault}
use Rattle.nf_model.specs.Curve.{Point}
use Rattle.nf_model.specs.Equilibrium.{Trace}
use Rattle.nf_net_def.specs.Named.{Named}
use Rattle.nf_net_def.specs.Report.{Report}
use Rattle.nf_report_def.specs.declared.ReportRule.{ReportRule}
use Rattle.nf_report_def.specs.declared.ReportRule.TheVariants.{P1, P2, P4, P14}
use Rattle.nf_report_def.specs.ReportLines.{Kind, OfLabel, OfInflow, OfOutflow, OfQueue, Stage, AtEnd, ReadCurve, ReportDraft, key_word, empty_report, report_line}

-- a broken rule and its line
pub record ReportBroken : Type 0 where
  pub rule : ReportRule
  pub line : ℕ

-- returns the words of the next line
abbrev pub next_words : List ReadLine → Option (List (List ℕ))
next_words [] = None
next_words (line ∷ rest) = Some line.words

abbrev pub in_report_line : ℕ → Result ReportDraft ReportRule → Result ReportDraft ReportBroken
in_report_line number (Ok draft) = Ok draft
in_report_line number (Err rule) = Err (record { rule = rule; line = number })

abbrev pub report_lines_from : Named → ReportDraft → List ReadLine → Result ReportDraft ReportBroken
report_lines_from n draft [] = Ok draft
report_lines_from n draft (line ∷ rest) = do
  next ← in_report_line line.number (report_line n draft line.plain (next_words rest) line.words)
  report_lines_from n next rest

-- an empty text breaks the rule of the first line
abbrev pub report_draft : Named → List ReadLine → Result ReportDraft ReportBroken
report_draft n [] = Err (record { rule = P4; line = 1 })
report_draft n (line ∷ rest) = report_lines_from n (empty_report n) (line ∷ rest)

-- ---- the report that the parser state gives
abbrev pub curves_of_kind : Kind → List ReadCurve → List ReadCurve
curves_of_kind kind curves = filter (λ curve. bytes_eq (key_word curve.key.kind) (key_word kind)) curves

abbrev pub points_read : Kind → List ReadCurve → List (List Point)
points_read kind curves = map (λ curve. curve.points) (curves_of_kind kind curves)

abbrev pub traces_read : Kind → List ReadCurve → List Trace
traces_read kind curves = map (λ curve. record { points = curve.points; rates = curve.rates }) (curves_of_kind kind curves)

abbrev pub report_of_draft : ReportDraft → Report
report_of_draft draft = record {
  horizon = draft.horizon;
  flow = record {
    reached = draft.reached;
    labels = points_read OfLabel draft.done;
    inflows = traces_read OfInflow draft.done;
    outflows = traces_read OfOutflow draft.done;
    queues = points_read OfQueue draft.done;
  };
  stop = draft.stop;
  last = draft.states;
}

abbrev pub if_at_end : Stage → ReportDraft → Result Report ReportBroken
if_at_end AtEnd draft = Ok (report_of_draft draft)
if_at_end stage draft = Err (record { rule = P14; line = 0 })

abbrev pub as_report_rule : LineFault → ReportBroken
as_report_rule (NotAscii line) = record { rule = P1; line = line }
as_report_rule (LongLine line) = record { rule = P2; line = line }

abbrev pub report_by_bytes : Option LineFault → Result Report ReportBroken → Result Report ReportBroken
report_by_bytes (Some fault) read = Err (as_report_rule fault)
report_by_bytes None read = read

-- returns the report that the text is, or the first broken rule with its line
unfoldable pub report_in : Named → List ℕ → Result Report ReportBroken
report_in n text = report_by_bytes (first_fault text) (report_draft n (read_lines text) >>= λ draft. if_at_end draft.stage draft)
