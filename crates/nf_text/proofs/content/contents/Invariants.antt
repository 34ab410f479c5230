use Rattle.std.proofs.Common.{◌≡◌, ◌++◌, length, map}
use Rattle.nf_text.proofs.Common.{read_line, read_lines, content_lines, first_fault, first_fault_of}
use Rattle.nf_text.proofs.content.contents.Given as goal

abbrev pub invariant-loop-line : goal.invariant-loop-line
invariant-loop-line l = (l.lines.items ++ content_lines (map read_line l.cursor) ≡ content_lines (read_lines l.text)) × (first_fault_of l.cursor ≡ first_fault l.text)

abbrev pub decreases-loop-line : goal.decreases-loop-line
decreases-loop-line l = length l.cursor
