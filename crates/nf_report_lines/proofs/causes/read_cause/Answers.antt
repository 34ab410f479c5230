use Rattle.std.proofs.Common.{sym, ◌∙◌, arith}
use Rattle.nf_report_lines.proofs.WordCounts.{is_patterns, is_passed, is_no_pattern, is_other}
use Rattle.nf_report_lines.proofs.causes.read_cause.Goals as goal

pub returns-then-is_word-3 : goal.returns-then-is_word-3
returns-then-is_word-3 c =
    c.read_patterns.ensures
    ∙ sym (is_patterns c.args.line.now.words (omega (arith, c.len.ensures)) c.at-kind.result.now c.at-kind.ensures
    (sym c.is_word.ensures ∙ c.if-is_word.false) (sym c.is_word-else-is_word.ensures ∙ c.if-is_word-2.false)
    (sym c.is_word-else-is_word-2.ensures ∙ c.if-is_word-3.true))

pub returns-then-is_word-4 : goal.returns-then-is_word-4
returns-then-is_word-4 c =
    c.read_passed.ensures
    ∙ sym (is_passed c.args.line.now.words (omega (arith, c.len.ensures)) c.at-kind.result.now c.at-kind.ensures
    (sym c.is_word.ensures ∙ c.if-is_word.false) (sym c.is_word-else-is_word.ensures ∙ c.if-is_word-2.false)
    (sym c.is_word-else-is_word-2.ensures ∙ c.if-is_word-3.false) (sym c.is_word-else-is_word-3.ensures ∙ c.if-is_word-4.true))

pub returns-then-is_word-5 : goal.returns-then-is_word-5
returns-then-is_word-5 c =
    c.read_no_pattern.ensures
    ∙ sym (is_no_pattern c.args.line.now.words (omega (arith, c.len.ensures)) c.at-kind.result.now c.at-kind.ensures
    (sym c.is_word.ensures ∙ c.if-is_word.false) (sym c.is_word-else-is_word.ensures ∙ c.if-is_word-2.false)
    (sym c.is_word-else-is_word-2.ensures ∙ c.if-is_word-3.false) (sym c.is_word-else-is_word-3.ensures ∙ c.if-is_word-4.false)
    (sym c.is_word-else-is_word-4.ensures ∙ c.if-is_word-5.true))

pub returns-else-is_word-5 : goal.returns-else-is_word-5
returns-else-is_word-5 c =
    sym (is_other c.args.line.now.words (omega (arith, c.len.ensures)) c.at-kind.result.now c.at-kind.ensures
    (sym c.is_word.ensures ∙ c.if-is_word.false) (sym c.is_word-else-is_word.ensures ∙ c.if-is_word-2.false)
    (sym c.is_word-else-is_word-2.ensures ∙ c.if-is_word-3.false) (sym c.is_word-else-is_word-3.ensures ∙ c.if-is_word-4.false)
    (sym c.is_word-else-is_word-4.ensures ∙ c.if-is_word-5.false))
