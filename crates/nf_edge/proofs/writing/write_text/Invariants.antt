use Rattle.std.proofs.Common.{length, ◌-◌, ◌≡◌, ◌≤◌, take}
use Rattle.nf_edge.specs.Taken.{with_more}
use Rattle.nf_edge.proofs.writing.write_text.Given as goal

abbrev pub invariant-loop-done : goal.invariant-loop-done
invariant-loop-done g l = let out = g.O.Sink in
    record {
      within : l.done ≤ length l.text;
      took : out.took l.out ≡ with_more (out.took l.initial.out) (take l.done l.text);
      no_fault : out.faults l.out ≡ out.faults l.initial.out;
    }

abbrev pub decreases-loop-done : goal.decreases-loop-done
decreases-loop-done g l = length l.text - l.done
