use Rattle.std.proofs.Common.{take, Ok, flat_map}
use Rattle.nf_app_answers.proofs.Common.{state_of, Wrote, SinkFault}
use Rattle.nf_app_answers.proofs.telling.write_texts.Given as goal

abbrev pub invariant-loop-text : goal.invariant-loop-text
invariant-loop-text g l = let err = g.E.Sink in
    Wrote {E = SinkFault} (state_of err l.initial.err) (state_of err l.err) (flat_map (λ t. t.now) (take l.text-index l.texts)) (Ok tt)
