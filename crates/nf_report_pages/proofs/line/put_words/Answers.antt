use Rattle.std.proofs.Common.{◌∷◌, map, drop, suc, refl}
use Rattle.nf_report_pages.proofs.Common.{after_words}
use Rattle.nf_report_pages.proofs.Parts.{next_part, parts_left, mapped_there}
use Rattle.nf_report_pages.proofs.Gathering.{gathered_nil, gathered_both, gathered_front}
use Rattle.nf_report_pages.proofs.line.put_words.Goals as goal

pub loop-word-init : goal.loop-word-init
loop-word-init g c = gathered_nil

pub loop-word-preserved : goal.loop-word-preserved
loop-word-preserved g c =
    gathered_both _
    (next_part (λ word. 32 ∷ word) (map (λ w. w.now) c.args.words.now) c.loop-word.word-index _
    (mapped_there (λ w. w.now) c.args.words.now c.loop-word.word-index _ c.loop-word-test.true))
    c.loop-word.invariant c.in_ok-put_word.ensures

pub returns-in_err-put_word : goal.returns-in_err-put_word
returns-in_err-put_word g c =
    gathered_front (after_words (drop (suc c.loop-word.word-index) (map (λ w. w.now) c.args.words.now))) _ _
    (parts_left (λ word. 32 ∷ word) (map (λ w. w.now) c.args.words.now) c.loop-word.word-index _
    (mapped_there (λ w. w.now) c.args.words.now c.loop-word.word-index _ c.loop-word-test.true))
    c.from_residual.ensures.0
    (gathered_both _ refl c.loop-word.invariant c.in_err-put_word.ensures)
