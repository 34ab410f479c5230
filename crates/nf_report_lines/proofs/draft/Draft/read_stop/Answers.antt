use Rattle.std.proofs.Common.{List, ℕ, not, bytes_eq, codes, sym, ap, ◌∙◌}
use Rattle.nf_report_lines.proofs.Common.{beq, seen_draft}
use Rattle.nf_report_lines.proofs.HeadLines.{none_by, cause_read, no_cause, cause_differs}
use Rattle.nf_report_lines.proofs.draft.Draft.read_stop.Goals as goal

pub returns : goal.returns
returns c n =
    cause_read (seen_draft n c.args.self.now) c.args.line.now.words c.requires
    (ap (λ (word : List ℕ). bytes_eq word (codes "cause")) (sym c.at.ensures) ∙ sym c.is_word.ensures ∙ c.if-not-is_word.false)
    c.in_ok-stop.stop (sym c.in_ok-stop.ensures)
    ((λ i. not (beq (none_by c.in_ok-stop.stop c.is_none.result c.is_none.ensures i) (sym c.is_same.ensures i))) ∙ c.if-is_none-is_same.false)

pub returns-then-not-is_word : goal.returns-then-not-is_word
returns-then-not-is_word c n = no_cause (seen_draft n c.args.self.now) c.args.line.now.words c.requires (ap (λ (word : List ℕ). bytes_eq word (codes "cause")) (sym c.at.ensures) ∙ sym c.is_word.ensures ∙ c.if-not-is_word.true)

pub returns-then-is_none-is_same : goal.returns-then-is_none-is_same
returns-then-is_none-is_same c n =
    cause_differs (seen_draft n c.args.self.now) c.args.line.now.words c.requires (ap (λ (word : List ℕ). bytes_eq word (codes "cause")) (sym c.at.ensures) ∙ sym c.is_word.ensures ∙ c.if-not-is_word.false)
    c.in_ok-stop.stop (sym c.in_ok-stop.ensures)
    ((λ i. not (beq (none_by c.in_ok-stop.stop c.is_none.result c.is_none.ensures i) (sym c.is_same.ensures i))) ∙ c.if-is_none-is_same.true)
