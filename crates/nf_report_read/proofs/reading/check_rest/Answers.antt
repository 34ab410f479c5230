use Rattle.std.proofs.Common.{◌≡◌, ◌<◌, ◌∷◌, List, [], length, map, Option, Some, MatchOption, ap, arith}
use Rattle.nf_report_read.proofs.Common.{length-map, MatchOption-at_some, TextLine, ReadLine, read_line}
use Rattle.nf_report_read.proofs.reading.check_rest.Goals as goal

fewer_lines : (old new : List TextLine) (next : Option ReadLine) (line : ReadLine) → next ≡ Some line
    → MatchOption next (old ≡ []) (λ line. map read_line old ≡ line ∷ map read_line new) → length new < length old
fewer_lines old new next line is h =
    let e : map read_line old ≡ line ∷ map read_line new = MatchOption-at_some (old ≡ []) (λ line. map read_line old ≡ line ∷ map read_line new) line is h in
    omega (arith, ap length e, length-map old read_line, length-map new read_line)

pub loop-fault-smaller-in-Ok-Some : goal.loop-fault-smaller-in-Ok-Some
loop-fault-smaller-in-Ok-Some c =
    fewer_lines c.loop-fault.cursor c.next_line.new.cursor c.in-Ok-Some.field-0 c.in-Ok-Some.field-0-0 c.in-Ok-Some.field-0-is c.in-Ok-Some.ensures.line
