use Rattle.std.proofs.Common.{◌≡◌, ◌+◌, ◌-◌, ◌≤◌, ◌++◌, length, map, drop, vec_len}
use Rattle.nf_text.proofs.Common.{lines_from, read_line, read_lines, first_fault, first_fault_of, Rise, seen_line, spans_of}
use Rattle.nf_text.proofs.lines.Given as goal

abbrev pub invariant-loop-start : goal.invariant-loop-start
invariant-loop-start l = let left = lines_from (vec_len l.lines + 1) (drop l.start l.text) in
    record {
      read : read_lines l.text ≡ map (seen_line l.text) l.lines.items ++ map read_line left;
      fault : first_fault l.text ≡ first_fault_of left;
      rise : Rise 0 l.start (spans_of l.lines.items);
      within : l.start ≤ length l.text;
      number : vec_len l.lines ≤ l.start;
    }

abbrev pub decreases-loop-start : goal.decreases-loop-start
decreases-loop-start l = length l.text - l.start
