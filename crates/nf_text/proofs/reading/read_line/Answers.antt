use Rattle.std.proofs.Common.{arith, ◌+◌, ◌-◌, ◌≤◌, ◌∙◌, ℕ, List, sym, ap, subst, length, length-drop, take, drop, map}
use Rattle.nf_text.proofs.Common.{bytes_eq, fault_of, line_of_words, take_rest, err_from_is_err_and, text_of, bytes_len, whole_len, MatchesFault}
use Rattle.nf_text.proofs.Parts.{Rise_within, Rise_higher}
use Rattle.nf_text.proofs.Extents.{line_bytes, next_after, next_within}
use Rattle.nf_text.proofs.LineWords.{words_of_line, line_is_read, comment_within}
use Rattle.nf_text.proofs.reading.read_line.Goals as goal

pub is_plain-plain-requires-clause-words : goal.is_plain-plain-requires-clause-words
is_plain-plain-requires-clause-words c =
    let rest = drop c.args.start c.args.text.now in
    let extent = c.first_extent-extent.result in
    let within : c.comment_start.result ≤ extent.whole = comment_within rest c.args.start extent.bytes c.comment_start.result extent.whole
    c.comment_start.ensures.within c.first_extent-extent.ensures.ordered in
    let last : c.args.start + c.comment_start.result ≤ length c.args.text.now =
    omega (arith, within, c.first_extent-extent.ensures.within, length-drop c.args.start c.args.text.now, c.requires.some) in
    rw c.deref.ensures.value (Rise_within c.args.start (c.args.start + c.comment_start.result) (length c.args.text.now) c.in_ok-words.words.items last c.in_ok-words.ensures.rise)

pub returns-clause-line : goal.returns-clause-line
returns-clause-line c =
    let rest = drop c.args.start c.args.text.now in
    let extent = c.first_extent-extent in
    let read = map (text_of c.args.text.now) c.in_ok-words.words.items in
    line_is_read c.args.number rest c.is_plain-plain.result read c.args.start extent.result.whole
    (c.in_ok-words.ensures.words ∙ words_of_line rest c.args.start extent.result.bytes c.comment_start.result c.comment_start.ensures.place
    (extent.ensures.bytes ∙ ap bytes_len (take_rest c.args.text.now c.args.start)))
    (extent.ensures.whole ∙ ap whole_len (take_rest c.args.text.now c.args.start))
    (c.is_plain-plain.ensures ∙ ap (λ spans. bytes_eq (take (c.args.start + extent.result.whole - c.args.start) rest)
    (line_of_words (map (text_of c.args.text.now) spans))) c.deref.ensures.value)

pub returns-clause-rise : goal.returns-clause-rise
returns-clause-rise c =
    let rest = drop c.args.start c.args.text.now in
    let extent = c.first_extent-extent.result in
    let within : c.comment_start.result ≤ extent.whole = comment_within rest c.args.start extent.bytes c.comment_start.result extent.whole
    c.comment_start.ensures.within c.first_extent-extent.ensures.ordered in
    Rise_higher c.args.start (c.args.start + c.comment_start.result) (c.args.start + extent.whole) c.in_ok-words.words.items (omega (arith, within)) c.in_ok-words.ensures.rise

pub returns-clause-words : goal.returns-clause-words
returns-clause-words c =
    let rest = drop c.args.start c.args.text.now in
    let extent = c.first_extent-extent.result in
    let within : c.comment_start.result ≤ extent.whole = comment_within rest c.args.start extent.bytes c.comment_start.result extent.whole
    c.comment_start.ensures.within c.first_extent-extent.ensures.ordered in
    let last : c.args.start + c.comment_start.result ≤ length c.args.text.now =
    omega (arith, within, c.first_extent-extent.ensures.within, length-drop c.args.start c.args.text.now, c.requires.some) in
    Rise_within c.args.start (c.args.start + c.comment_start.result) (length c.args.text.now) c.in_ok-words.words.items last c.in_ok-words.ensures.rise

pub returns-clause-next : goal.returns-clause-next
returns-clause-next c = ap (λ n. c.args.start + n) (c.first_extent-extent.ensures.whole ∙ ap whole_len (take_rest c.args.text.now c.args.start))

pub returns-clause-more : goal.returns-clause-more
returns-clause-more c = next_after c.args.text.now c.args.start c.requires.some c.first_extent-extent.result.whole c.first_extent-extent.ensures.some

pub returns-clause-within : goal.returns-clause-within
returns-clause-within c = next_within c.args.text.now c.args.start c.requires.some c.first_extent-extent.result.whole c.first_extent-extent.ensures.within

pub returns-clause-none : goal.returns-clause-none
returns-clause-none c =
    ap (fault_of c.args.number) (sym (line_bytes c.args.text.now c.args.start c.first_extent-extent.result.bytes c.first_extent-extent.ensures.bytes)) ∙ c.in_ok-check_line.ensures

pub returns-in_err-check_line-clause-fault : goal.returns-in_err-check_line-clause-fault
returns-in_err-check_line-clause-fault c =
    let p = err_from_is_err_and c.from_residual.result c.from_residual.ensures.1 in
    rw (p.1, p.2) (subst (λ (bytes : List ℕ). MatchesFault c.in_err-check_line.field-0.0 (fault_of c.args.number bytes))
    (line_bytes c.args.text.now c.args.start c.first_extent-extent.result.bytes c.first_extent-extent.ensures.bytes) c.in_err-check_line.ensures)
