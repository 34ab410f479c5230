use Rattle.std.proofs.Common.{◌≡◌, ◌∷◌, map}
use Rattle.nf_report_read.proofs.Common.{read_line, first_fault_of, report_lines_from, seen_draft, IsWithinNetwork}
use Rattle.nf_report_read.proofs.LineByLine.{from_line, count_from, EndsThere}
use Rattle.nf_report_read.proofs.reading.add_lines.Given as goal

abbrev pub invariant-loop-line : goal.invariant-loop-line
invariant-loop-line l =
    (report_lines_from l.net (seen_draft l.net l.draft) (from_line l.line l.cursor) ≡ report_lines_from l.net (seen_draft l.net l.fn.draft) (l.fn.first ∷ map read_line l.fn.cursor))
    × (first_fault_of l.cursor ≡ first_fault_of l.fn.cursor) × EndsThere l.line l.cursor × IsWithinNetwork l.net l.draft

abbrev pub decreases-loop-line : goal.decreases-loop-line
decreases-loop-line l = count_from l.line l.cursor
