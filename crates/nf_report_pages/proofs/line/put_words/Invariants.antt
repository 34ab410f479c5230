use Rattle.std.proofs.Common.{take, map, Ok}
use Rattle.nf_report_pages.proofs.Common.{Gathered, SinkFault, state_of, after_words}
use Rattle.nf_report_pages.proofs.line.put_words.Given as goal

abbrev pub invariant-loop-word : goal.invariant-loop-word
invariant-loop-word g l = let out = g.O.Sink in
    Gathered {E = SinkFault} (state_of out l.initial.out) (state_of out l.out) l.initial.page l.page (after_words (take l.word-index (map (λ w. w.now) l.words))) (Ok tt)
