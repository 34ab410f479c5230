use Rattle.std.proofs.Common.{List, ℕ, bytes_eq, codes, sym, ap, ◌∙◌}
use Rattle.nf_report_lines.proofs.Common.{err_from_is_err_and, lt_ℚ, seen_draft}
use Rattle.nf_report_lines.proofs.HeadLines.{no_reached, reached_fails, reached_negative, reached_beyond, reached_read}
use Rattle.nf_report_lines.proofs.draft.Draft.read_reached.Goals as goal
use Rattle.nf_report_lines.proofs.draft.Draft.read_reached.Goals.{then-is_below-via-then-is_below, then-is_below-via-else-is_below+then-is_below-2}

pub returns : goal.returns
returns c n =
    reached_read (seen_draft n c.args.self.now) c.args.line.now.words c.requires
    (ap (λ (word : List ℕ). bytes_eq word (codes "reached")) (sym c.at.ensures) ∙ sym c.is_word.ensures ∙ c.if-not-is_word.false)
    c.in_ok-reached.reached (sym c.in_ok-reached.ensures)
    (ap (lt_ℚ c.in_ok-reached.reached) (sym c.zero.ensures) ∙ sym c.is_below.ensures ∙ c.if-is_below.false)
    (sym c.is_below-else-is_below.ensures ∙ c.if-is_below-2.false)

pub returns-then-not-is_word : goal.returns-then-not-is_word
returns-then-not-is_word c n = no_reached (seen_draft n c.args.self.now) c.args.line.now.words c.requires (ap (λ (word : List ℕ). bytes_eq word (codes "reached")) (sym c.at.ensures) ∙ sym c.is_word.ensures ∙ c.if-not-is_word.true)

pub returns-in_err-reached : goal.returns-in_err-reached
returns-in_err-reached c n =
    let p = err_from_is_err_and c.from_residual.result c.from_residual.ensures.1 in
    rw (p.1, p.2) (reached_fails (seen_draft n c.args.self.now) c.args.line.now.words c.requires (ap (λ (word : List ℕ). bytes_eq word (codes "reached")) (sym c.at.ensures) ∙ sym c.is_word.ensures ∙ c.if-not-is_word.false)
    c.in_err-reached.field-0.0 (sym c.in_err-reached.ensures))

pub returns-then-is_below : goal.returns-then-is_below
returns-then-is_below c n = elim c.then-is_below.branch [
  | then-is_below-via-then-is_below w ↦ reached_negative (seen_draft n c.args.self.now) c.args.line.now.words c.requires
      (ap (λ (word : List ℕ). bytes_eq word (codes "reached")) (sym c.at.ensures) ∙ sym c.is_word.ensures ∙ c.if-not-is_word.false)
      c.in_ok-reached.reached (sym c.in_ok-reached.ensures) (ap (lt_ℚ c.in_ok-reached.reached) (sym c.zero.ensures) ∙ sym c.is_below.ensures ∙ w.if-is_below.true)
  | then-is_below-via-else-is_below+then-is_below-2 w ↦ reached_beyond (seen_draft n c.args.self.now) c.args.line.now.words c.requires
      (ap (λ (word : List ℕ). bytes_eq word (codes "reached")) (sym c.at.ensures) ∙ sym c.is_word.ensures ∙ c.if-not-is_word.false)
      c.in_ok-reached.reached (sym c.in_ok-reached.ensures) (sym w.is_below-else-is_below.ensures ∙ w.if-is_below-2.true)
]
