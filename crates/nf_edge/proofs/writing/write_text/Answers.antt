use Rattle.std.proofs.Common.{◌∙◌}
use Rattle.nf_edge.proofs.Pieces.{took_more, still_within}
use Rattle.nf_edge.proofs.writing.write_text.Goals as goal

pub loop-done-preserved : goal.loop-done-preserved
loop-done-preserved g c = record {
  within = still_within c.args.text.now c.loop-done.done c.in_ok-done.field-0 c.loop-done.invariant.within c.in_ok-done.ensures.within;
  took =
      took_more (g.O.Sink.took c.args.out.now) (g.O.Sink.took c.loop-done.out)
      (g.O.Sink.took c.write.new.self) c.args.text.now c.loop-done.done c.in_ok-done.field-0 c.loop-done.invariant.took c.in_ok-done.ensures.took;
  no_fault = c.in_ok-done.ensures.no_fault ∙ c.loop-done.invariant.no_fault;
}
