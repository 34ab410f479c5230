use Rattle.std.proofs.Common.{ap, ◌∙◌}
use Rattle.nf_report_lines.proofs.Common.{err_from_is_err_and, option_copied, nothing_more, staged_line, words_behind, Stage, seen_draft, seen_stage}
use Rattle.nf_report_lines.proofs.draft.Draft.read_staged.Goals as goal

pub returns-in-Version-clause-says : goal.returns-in-Version-clause-says
returns-in-Version-clause-says c =
    ap (λ (s : Stage). staged_line c.args.net.now (seen_draft c.args.net.now c.args.self.now)
    (words_behind (option_copied c.args.next)) c.args.line.now.words (seen_stage s)) c.in-Version.is
    ∙ c.read_version.ensures.says (seen_draft c.args.net.now c.args.self.now)

pub returns-in-Version-clause-fits : goal.returns-in-Version-clause-fits
returns-in-Version-clause-fits c = c.read_version.ensures.fits (seen_draft c.args.net.now c.args.self.now)

pub returns-in-End-clause-says : goal.returns-in-End-clause-says
returns-in-End-clause-says c =
    ap (λ (s : Stage). staged_line c.args.net.now (seen_draft c.args.net.now c.args.self.now) (words_behind (option_copied c.args.next)) c.args.line.now.words (seen_stage s)) c.in-End.is
    ∙ ap nothing_more c.read_body-in-End.ensures.says
    ∙ c.read_nothing.ensures.says c.args.net.now (seen_draft c.args.net.now c.args.self.now)

pub returns-in-Body-clause-says : goal.returns-in-Body-clause-says
returns-in-Body-clause-says c =
    ap (λ (s : Stage). staged_line c.args.net.now (seen_draft c.args.net.now c.args.self.now)
    (words_behind (option_copied c.args.next)) c.args.line.now.words (seen_stage s)) c.in-Body.is
    ∙ c.read_body.ensures.says

pub returns-in_err-read_reached-in-Reached-clause-says : goal.returns-in_err-read_reached-in-Reached-clause-says
returns-in_err-read_reached-in-Reached-clause-says c =
    let p = err_from_is_err_and c.from_residual-in_err-read_reached-in-Reached.result c.from_residual-in_err-read_reached-in-Reached.ensures.1 in
    rw (p.1, p.2) (ap (λ (s : Stage). staged_line c.args.net.now (seen_draft c.args.net.now c.args.self.now)
    (words_behind (option_copied c.args.next)) c.args.line.now.words (seen_stage s)) c.in-Reached.is
    ∙ c.in_err-read_reached-in-Reached.ensures c.args.net.now)

pub returns-in_err-read_stop-in-Cause-clause-says : goal.returns-in_err-read_stop-in-Cause-clause-says
returns-in_err-read_stop-in-Cause-clause-says c =
    let p = err_from_is_err_and c.from_residual-in_err-read_stop-in-Cause.result c.from_residual-in_err-read_stop-in-Cause.ensures.1 in
    rw (p.1, p.2) (ap (λ (s : Stage). staged_line c.args.net.now (seen_draft c.args.net.now c.args.self.now)
    (words_behind (option_copied c.args.next)) c.args.line.now.words (seen_stage s)) c.in-Cause.is
    ∙ c.in_err-read_stop-in-Cause.ensures c.args.net.now)
