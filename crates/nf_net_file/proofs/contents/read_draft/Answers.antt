use Rattle.std.proofs.Common.{◌≡◌, Err, ◌∙◌}
use Rattle.nf_net_file.proofs.Common.{err_from_is_err_and, add_lines, draft_from, seen_draft}
use Rattle.nf_net_file.proofs.ContentLines.{broken_more, version_then}
use Rattle.nf_net_file.proofs.contents.read_draft.Goals as goal

pub returns-in_err-add_lines : goal.returns-in_err-add_lines
returns-in_err-add_lines c =
    let p = err_from_is_err_and c.from_residual.result c.from_residual.ensures.1 in
    let rest = version_then c.args.lines.now c.first-item.result c.in-len1-up.len_at_least c.first-item.is c.in-Some.version
    (seen_draft c.new-draft.result) c.new-draft.ensures c.in-Some.ensures in
    rw (p.1, p.2) (broken_more _ _ (λ broken. draft_from c.args.lines.now ≡ Err broken) (λ broken h. rest ∙ h) c.in_err-add_lines.ensures)

pub returns : goal.returns
returns c =
    version_then c.args.lines.now c.first-item.result c.in-len1-up.len_at_least c.first-item.is c.in-Some.version (seen_draft c.new-draft.result) c.new-draft.ensures c.in-Some.ensures
    ∙ c.in_ok-add_lines.ensures
