use Rattle.std.proofs.Common.{[], ◌∷◌, true, false, sym, ◌∙◌, arith}
use Rattle.nf_report_lines.proofs.Common.{err_from_is_err_and, seen_draft}
use Rattle.nf_report_lines.proofs.WordCounts.{two_behind}
use Rattle.nf_report_lines.proofs.BodyLines.{state_count, state_wrong, state_out}
use Rattle.nf_report_lines.proofs.draft.Draft.read_state.Goals as goal

pub returns-then-len-ne3-clause-says : goal.returns-then-len-ne3-clause-says
returns-then-len-ne3-clause-says c =
    state_count c.args.net.now (seen_draft c.args.net.now c.args.self.now) c.args.line.now.words c.requires.words
    (λ e. c.if-len-ne3.true (c.len.ensures ∙ e))

pub at-requires : goal.at-requires
at-requires c = omega (arith, c.len.ensures, c.if-len-ne3.false)

pub at-requires-2 : goal.at-requires-2
at-requires-2 c = omega (arith, c.len.ensures, c.if-len-ne3.false)

pub has_all-requires : goal.has_all-requires
has_all-requires c = c.requires.within

pub returns-in_err-state-clause-says : goal.returns-in_err-state-clause-says
returns-in_err-state-clause-says c =
    let p = err_from_is_err_and c.from_residual.result c.from_residual.ensures.1 in
    rw (p.1, p.2) (state_wrong c.args.net.now (seen_draft c.args.net.now c.args.self.now) c.args.line.now.words c.at.result.now c.at-2.result.now
    (two_behind c.args.line.now.words (sym c.len.ensures ∙ c.if-len-ne3.false) ∙ (λ i. sym c.at.ensures i ∷ sym c.at-2.ensures i ∷ []))
    c.in-Some.link c.in-Some.ensures (omega (arith, c.if-link-self.true, c.link.view_is)) c.in_err-state.field-0.0 (sym c.in_err-state.ensures))

pub returns-then-not-has_all-clause-says : goal.returns-then-not-has_all-clause-says
returns-then-not-has_all-clause-says c =
    state_out c.args.net.now (seen_draft c.args.net.now c.args.self.now) c.args.line.now.words c.at.result.now c.at-2.result.now
    (two_behind c.args.line.now.words (sym c.len.ensures ∙ c.if-len-ne3.false) ∙ (λ i. sym c.at.ensures i ∷ sym c.at-2.ensures i ∷ []))
    c.in-Some.link c.in-Some.ensures (omega (arith, c.if-link-self.true, c.link.view_is)) c.in_ok-state.state false (sym c.in_ok-state.ensures) (sym c.if-not-has_all.ensures)

pub returns-clause-says : goal.returns-clause-says
returns-clause-says c =
    state_out c.args.net.now (seen_draft c.args.net.now c.args.self.now) c.args.line.now.words c.at.result.now c.at-2.result.now
    (two_behind c.args.line.now.words (sym c.len.ensures ∙ c.if-len-ne3.false) ∙ (λ i. sym c.at.ensures i ∷ sym c.at-2.ensures i ∷ []))
    c.in-Some.link c.in-Some.ensures (omega (arith, c.if-link-self.true, c.link.view_is)) c.in_ok-state.state true (sym c.in_ok-state.ensures) (sym c.if-not-has_all.ensures)
