use Rattle.std.proofs.Common.{[], ◌∷◌, Ok, Err, true, false, sym, refl, ◌∙◌, arith}
use Rattle.nf_report_lines.proofs.Common.{option_copied, err_from_is_err_and, word_at, are_alike, seen_kind, words_behind, seen_draft, opened_by}
use Rattle.nf_report_lines.proofs.WordCounts.{four_behind}
use Rattle.nf_report_lines.proofs.BodyLines.{trace_count, rated_by, rate_wrong, rated_out, none_is}
use Rattle.nf_report_lines.proofs.draft.Draft.read_rated.Goals as goal

pub returns-then-len-ne5-clause-says : goal.returns-then-len-ne5-clause-says
returns-then-len-ne5-clause-says c =
    trace_count (seen_draft c.args.net.now c.args.self.now) (seen_kind c.args.kind)
    (words_behind (option_copied c.args.next)) c.args.line.now.words c.requires.words (λ e. c.if-len-ne5.true (c.len.ensures ∙ e))

pub at-name-requires : goal.at-name-requires
at-name-requires c = omega (arith, c.len.ensures, c.if-len-ne5.false)

pub at-requires : goal.at-requires
at-requires c = omega (arith, c.len.ensures, c.if-len-ne5.false)

pub at-requires-2 : goal.at-requires-2
at-requires-2 c = omega (arith, c.len.ensures, c.if-len-ne5.false)

pub at-requires-3 : goal.at-requires-3
at-requires-3 c = omega (arith, c.len.ensures, c.if-len-ne5.false)

pub opened-requires : goal.opened-requires
opened-requires c = c.requires.within

pub returns-in_err-opening-clause-says : goal.returns-in_err-opening-clause-says
returns-in_err-opening-clause-says c =
    let p = err_from_is_err_and c.from_residual.result c.from_residual.ensures.1 in
    let words = c.args.line.now.words in
    rw (p.1, p.2) (rated_by (seen_draft c.args.net.now c.args.self.now) (seen_kind c.args.kind) words c.at-name.result.now (word_at words 2)
    (word_at words 3) (words_behind (option_copied c.args.next)) (word_at words 4)
    (four_behind words (sym c.len.ensures ∙ c.if-len-ne5.false) ∙ (λ i. sym c.at-name.ensures i ∷ word_at words 2 ∷ word_at words 3 ∷ word_at words 4 ∷ []))
    (Err c.in_err-opening.field-0.0) c.in_err-opening.ensures.says _ _ refl refl)

pub returns-in_err-time-clause-says : goal.returns-in_err-time-clause-says
returns-in_err-time-clause-says c =
    let p = err_from_is_err_and c.from_residual-in_err-time.result c.from_residual-in_err-time.ensures.1 in
    let words = c.args.line.now.words in
    rw (p.1, p.2) (rated_by (seen_draft c.args.net.now c.args.self.now) (seen_kind c.args.kind) words c.at-name.result.now c.at.result.now (word_at words 3)
    (words_behind (option_copied c.args.next)) (word_at words 4)
    (four_behind words (sym c.len.ensures ∙ c.if-len-ne5.false) ∙ (λ i. sym c.at-name.ensures i ∷ sym c.at.ensures i ∷ word_at words 3 ∷ word_at words 4 ∷ []))
    (Ok (opened_by (seen_draft c.args.net.now c.args.self.now) c.in_ok-opening.opening)) c.in_ok-opening.ensures.says (Err c.in_err-time.field-0.0) _ (sym c.in_err-time.ensures) refl)

pub returns-in_err-value-clause-says : goal.returns-in_err-value-clause-says
returns-in_err-value-clause-says c =
    let p = err_from_is_err_and c.from_residual-in_err-value.result c.from_residual-in_err-value.ensures.1 in
    let words = c.args.line.now.words in
    rw (p.1, p.2) (rated_by (seen_draft c.args.net.now c.args.self.now) (seen_kind c.args.kind) words c.at-name.result.now c.at.result.now c.at-2.result.now
    (words_behind (option_copied c.args.next)) (word_at words 4)
    (four_behind words (sym c.len.ensures ∙ c.if-len-ne5.false) ∙ (λ i. sym c.at-name.ensures i ∷ sym c.at.ensures i ∷ sym c.at-2.ensures i ∷ word_at words 4 ∷ []))
    (Ok (opened_by (seen_draft c.args.net.now c.args.self.now) c.in_ok-opening.opening)) c.in_ok-opening.ensures.says (Ok c.in_ok-time.time)
    (Err c.in_err-value.field-0.0) (sym c.in_ok-time.ensures) (sym c.in_err-value.ensures))

pub returns-in_err-rate-clause-says : goal.returns-in_err-rate-clause-says
returns-in_err-rate-clause-says c =
    let p = err_from_is_err_and c.from_residual-in_err-rate.result c.from_residual-in_err-rate.ensures.1 in
    rw (p.1, p.2) (rate_wrong (seen_draft c.args.net.now c.args.self.now) (seen_kind c.args.kind) (words_behind (option_copied c.args.next)) c.args.line.now.words
    c.at-name.result.now c.at.result.now c.at-2.result.now c.at-3.result.now
    (four_behind c.args.line.now.words (sym c.len.ensures ∙ c.if-len-ne5.false) ∙ (λ i. sym c.at-name.ensures i ∷ sym c.at.ensures i ∷ sym c.at-2.ensures i ∷ sym c.at-3.ensures i ∷ []))
    (opened_by (seen_draft c.args.net.now c.args.self.now) c.in_ok-opening.opening) c.in_ok-opening.ensures.says
    c.in_ok-time.time c.in_ok-value.value (sym c.in_ok-time.ensures) (sym c.in_ok-value.ensures)
    c.in_err-rate.field-0.0 (sym c.in_err-rate.ensures))

pub returns-then-not-comes_after-clause-says : goal.returns-then-not-comes_after-clause-says
returns-then-not-comes_after-clause-says c =
    rated_out (seen_draft c.args.net.now c.args.self.now) (seen_kind c.args.kind) (words_behind (option_copied c.args.next)) c.args.line.now.words
    c.at-name.result.now c.at.result.now c.at-2.result.now c.at-3.result.now
    (four_behind c.args.line.now.words (sym c.len.ensures ∙ c.if-len-ne5.false) ∙ (λ i. sym c.at-name.ensures i ∷ sym c.at.ensures i ∷ sym c.at-2.ensures i ∷ sym c.at-3.ensures i ∷ []))
    (opened_by (seen_draft c.args.net.now c.args.self.now) c.in_ok-opening.opening) c.in_ok-opening.ensures.says
    c.in_ok-time.time c.in_ok-value.value (sym c.in_ok-time.ensures) (sym c.in_ok-value.ensures)
    c.in_ok-rate.rate false _ (sym c.in_ok-rate.ensures) (sym (c.if-not-comes_after.ensures c.args.net.now)) refl

pub returns-then-are_alike-clause-says : goal.returns-then-are_alike-clause-says
returns-then-are_alike-clause-says c =
    rated_out (seen_draft c.args.net.now c.args.self.now) (seen_kind c.args.kind) (words_behind (option_copied c.args.next)) c.args.line.now.words
    c.at-name.result.now c.at.result.now c.at-2.result.now c.at-3.result.now
    (four_behind c.args.line.now.words (sym c.len.ensures ∙ c.if-len-ne5.false) ∙ (λ i. sym c.at-name.ensures i ∷ sym c.at.ensures i ∷ sym c.at-2.ensures i ∷ sym c.at-3.ensures i ∷ []))
    (opened_by (seen_draft c.args.net.now c.args.self.now) c.in_ok-opening.opening) c.in_ok-opening.ensures.says
    c.in_ok-time.time c.in_ok-value.value (sym c.in_ok-time.ensures) (sym c.in_ok-value.ensures)
    c.in_ok-rate.rate true true (sym c.in_ok-rate.ensures) (sym (c.if-not-comes_after.ensures c.args.net.now))
    ((λ i. are_alike (none_is c.in_ok-rate.rate c.is_none.result c.is_none.ensures i) (sym c.goes_on.ensures i)) ∙ sym c.if-are_alike.ensures)

pub returns-clause-says : goal.returns-clause-says
returns-clause-says c =
    rated_out (seen_draft c.args.net.now c.args.self.now) (seen_kind c.args.kind) (words_behind (option_copied c.args.next)) c.args.line.now.words
    c.at-name.result.now c.at.result.now c.at-2.result.now c.at-3.result.now
    (four_behind c.args.line.now.words (sym c.len.ensures ∙ c.if-len-ne5.false) ∙ (λ i. sym c.at-name.ensures i ∷ sym c.at.ensures i ∷ sym c.at-2.ensures i ∷ sym c.at-3.ensures i ∷ []))
    (opened_by (seen_draft c.args.net.now c.args.self.now) c.in_ok-opening.opening) c.in_ok-opening.ensures.says
    c.in_ok-time.time c.in_ok-value.value (sym c.in_ok-time.ensures) (sym c.in_ok-value.ensures)
    c.in_ok-rate.rate true false (sym c.in_ok-rate.ensures) (sym (c.if-not-comes_after.ensures c.args.net.now))
    ((λ i. are_alike (none_is c.in_ok-rate.rate c.is_none.result c.is_none.ensures i) (sym c.goes_on.ensures i)) ∙ sym c.if-are_alike.ensures)

pub returns-clause-fits : goal.returns-clause-fits
returns-clause-fits c = (c.in_ok-opening.ensures.can, sym (c.if-not-comes_after.ensures c.args.net.now))
