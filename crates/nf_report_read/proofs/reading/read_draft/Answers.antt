use Rattle.std.proofs.Common.{List, option_map, sym, ap, ◌∙◌}
use Rattle.std.proofs.lemmas.Result.{err_from_is_err_and}
use Rattle.nf_report_read.proofs.Common.{TextLine, first_fault_of, as_report_rule, seen_draft}
use Rattle.nf_report_read.proofs.LineByLine.{broken_more, fault_breaks_text, no_line, draft_read, fault_read}
use Rattle.nf_report_read.proofs.reading.read_draft.Goals as goal

pub returns-in_default-clause-fault : goal.returns-in_default-clause-fault
returns-in_default-clause-fault c =
    no_line c.args.net.now c.args.text.now c.new-cursor.result c.next_line.new.cursor c.new-cursor.ensures c.in_ok-line.line c.in_ok-line.ensures.line c.in_default.is

pub returns-in_err-line-clause-fault : goal.returns-in_err-line-clause-fault
returns-in_err-line-clause-fault c =
    let p = err_from_is_err_and c.from_residual.result c.from_residual.ensures.1 in
    rw (p.1, p.2) (broken_more _ _ _ (λ broken h. fault_breaks_text c.args.net.now c.args.text.now broken
    (ap (λ (l : List TextLine). option_map as_report_rule (first_fault_of l)) (sym c.new-cursor.ensures) ∙ h)) c.in_err-line.ensures.fault)

pub returns-clause-draft : goal.returns-clause-draft
returns-clause-draft c =
    draft_read c.args.net.now c.args.text.now c.new-cursor.result c.next_line.new.cursor c.new-cursor.ensures c.in_ok-line.line c.in_ok-line.ensures.line c.in_ok-line.ensures.fine
    c.in-Some.first c.in-Some.is (seen_draft c.args.net.now c.in_ok-draft.draft) c.in_ok-draft.ensures.draft c.add_lines.new.draft
    c.in_ok-add_lines.ensures.draft c.in_ok-add_lines.ensures.fine

pub returns-in_err-add_lines-clause-fault : goal.returns-in_err-add_lines-clause-fault
returns-in_err-add_lines-clause-fault c =
    let p = err_from_is_err_and c.from_residual-in_err-add_lines.result c.from_residual-in_err-add_lines.ensures.1 in
    rw (p.1, p.2) (fault_read c.args.net.now c.args.text.now c.new-cursor.result c.next_line.new.cursor c.new-cursor.ensures c.in_ok-line.line c.in_ok-line.ensures.line c.in_ok-line.ensures.fine
    c.in-Some.first c.in-Some.is (seen_draft c.args.net.now c.in_ok-draft.draft) c.in_ok-draft.ensures.draft _ c.in_err-add_lines.ensures.fault)
