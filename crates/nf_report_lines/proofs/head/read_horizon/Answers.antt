use Rattle.std.proofs.Common.{List, ℕ, true, false, bytes_eq, codes, sym, ap, ◌∙◌}
use Rattle.nf_report_lines.proofs.Common.{err_from_is_err_and, lt_ℚ}
use Rattle.nf_report_lines.proofs.HeadLines.{no_horizon, horizon_fails, horizon_read}
use Rattle.nf_report_lines.proofs.head.read_horizon.Goals as goal

pub returns-then-not-is_word : goal.returns-then-not-is_word
returns-then-not-is_word c draft = no_horizon draft c.args.line.now.words c.requires (ap (λ (word : List ℕ). bytes_eq word (codes "horizon")) (sym c.at.ensures) ∙ sym c.is_word.ensures ∙ c.if-not-is_word.true)

pub returns-in_err-horizon : goal.returns-in_err-horizon
returns-in_err-horizon c draft =
    let p = err_from_is_err_and c.from_residual.result c.from_residual.ensures.1 in
    rw (p.1, p.2) (horizon_fails draft c.args.line.now.words c.requires (ap (λ (word : List ℕ). bytes_eq word (codes "horizon")) (sym c.at.ensures) ∙ sym c.is_word.ensures ∙ c.if-not-is_word.false)
    c.in_err-horizon.field-0.0 (sym c.in_err-horizon.ensures))

pub returns-then-is_below : goal.returns-then-is_below
returns-then-is_below c draft =
    horizon_read draft c.args.line.now.words c.requires (ap (λ (word : List ℕ). bytes_eq word (codes "horizon")) (sym c.at.ensures) ∙ sym c.is_word.ensures ∙ c.if-not-is_word.false)
    c.in_ok-horizon.horizon true (sym c.in_ok-horizon.ensures) (ap (lt_ℚ c.in_ok-horizon.horizon) (sym c.zero.ensures) ∙ sym c.is_below.ensures ∙ c.if-is_below.true)

pub returns : goal.returns
returns c draft =
    horizon_read draft c.args.line.now.words c.requires (ap (λ (word : List ℕ). bytes_eq word (codes "horizon")) (sym c.at.ensures) ∙ sym c.is_word.ensures ∙ c.if-not-is_word.false)
    c.in_ok-horizon.horizon false (sym c.in_ok-horizon.ensures) (ap (lt_ℚ c.in_ok-horizon.horizon) (sym c.zero.ensures) ∙ sym c.is_below.ensures ∙ c.if-is_below.false)
