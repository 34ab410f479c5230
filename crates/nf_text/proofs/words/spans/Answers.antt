use Rattle.std.proofs.Common.{arith}
use Rattle.nf_text.proofs.Parts.{words_skip, words_push, words_end, words_between, Rise_step, Rise_skip, Rise_end}
use Rattle.nf_text.proofs.words.spans.Goals as goal
use Rattle.nf_text.proofs.words.spans.Goals.{then-len-gt0+in_ok-push, else-len-gt0}

pub loop-at-preserved : goal.loop-at-preserved
loop-at-preserved c =
    let text = c.args.text.now in let start = c.args.start in let end = c.args.end in let at = c.loop-at.at in let len = c.word_len-len.result in
    let spans = c.loop-at.spans.items in let place = c.word_len-len.ensures.place in let total = words_between text start end in
    elim c.if-len-gt0.branch [
      | then-len-gt0+in_ok-push w ↦ rw w.spans-is (rw w.in_ok-push.ensures.items (record {
        words = words_push total text spans at end len place w.if-len-gt0.true c.requires.within c.loop-at.invariant.words;
        rise = Rise_step start at end len text spans place c.loop-at.invariant.from c.loop-at-test.true w.if-len-gt0.true c.loop-at.invariant.rise;
        from = omega (arith, c.loop-at.invariant.from);
      }))
      | else-len-gt0 w ↦ rw w.spans-is (record {
        words = words_skip total text spans at end len place (omega (arith, w.if-len-gt0.false)) c.loop-at.invariant.words;
        rise = Rise_skip start at end len spans c.loop-at.invariant.rise;
        from = omega (arith, c.loop-at.invariant.from);
      })
    ]

pub returns-clause-words : goal.returns-clause-words
returns-clause-words c =
    words_end (words_between c.args.text.now c.args.start c.args.end) c.args.text.now c.loop-at.spans.items c.loop-at.at c.args.end
    (omega (arith, c.loop-at-test.false)) c.loop-at.invariant.words

pub returns-clause-rise : goal.returns-clause-rise
returns-clause-rise c = Rise_end c.args.start c.loop-at.at c.args.end c.loop-at.spans.items c.loop-at.invariant.rise
