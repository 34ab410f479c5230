use Rattle.std.proofs.Common.{◌<◌, ◌≤◌, ◌∙◌, sym, arith, length, map, get_or}
use Rattle.nf_text.proofs.Common.{bytes_eq, length-map, line_of_words, text_of, between}
use Rattle.std.proofs.Math.ListN.{get_or-map}
use Rattle.nf_text.proofs.Plain.{plain_step, plain_stop, plain_end}
use Rattle.nf_text.proofs.words.is_plain.Goals as goal

pub returns-in_default : goal.returns-in_default
returns-in_default c = let f = text_of c.args.text.now in let words = map f c.args.words.now in let i = c.loop-index.index in
    let less : i < length words = omega (arith, c.loop-index-test.true, length-map c.args.words.now f) in
    plain_stop (bytes_eq (between c.args.text.now c.args.start c.args.end) (line_of_words words)) c.args.text.now c.args.end (between c.args.text.now c.loop-index.at c.args.end) words i
    (f (record { start = 0; len = 0 })) (f (get_or c.args.words.now i (record { start = 0; len = 0 }))) less
    (sym (get_or-map f c.args.words.now i (record { start = 0; len = 0 }))) c.in_default.ensures.goes_on c.loop-index.invariant.same

pub loop-index-preserved : goal.loop-index-preserved
loop-index-preserved c = let f = text_of c.args.text.now in let words = map f c.args.words.now in let i = c.loop-index.index in
    let less : i < length words = omega (arith, c.loop-index-test.true, length-map c.args.words.now f) in
    record {
      within = c.in-Some.ensures.within;
      same = plain_step (bytes_eq (between c.args.text.now c.args.start c.args.end) (line_of_words words)) c.args.text.now c.args.end
          (between c.args.text.now c.loop-index.at c.args.end) words i
          (f (record { start = 0; len = 0 })) (f (get_or c.args.words.now i (record { start = 0; len = 0 }))) c.in-Some.next less
          (sym (get_or-map f c.args.words.now i (record { start = 0; len = 0 }))) c.in-Some.ensures.goes_on c.loop-index.invariant.same;
    }

pub returns : goal.returns
returns c = let f = text_of c.args.text.now in let words = map f c.args.words.now in let i = c.loop-index.index in
    let all : length words ≤ i = omega (arith, c.loop-index-test.false, length-map c.args.words.now f) in
    c.is_same.ensures ∙ plain_end (bytes_eq (between c.args.text.now c.args.start c.args.end) (line_of_words words))
    (between c.args.text.now c.loop-index.at c.args.end) words i all c.loop-index.invariant.same
