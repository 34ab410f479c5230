use Rattle.std.proofs.Common.{Ok, Err, ◌∙◌}
use Rattle.nf_routes_read.proofs.Common.{◌>>=◌, broken_more, same_read, drafted_lines, routes_ended, routes_frame, unless_circle, routes_in}
use Rattle.std.proofs.lemmas.Result.{err_from_is_err_and}
use Rattle.nf_text_def.specs.Words.{read_lines, content_lines}
use Rattle.nf_routes_laws.proofs.FileKept.{draft_sound}
use Rattle.nf_routes_read.proofs.RoutesRead.{routes_read}
use Rattle.nf_routes_read.proofs.reading.read_routes.Goals as goal

pub returns-in_err-draft : goal.returns-in_err-draft
returns-in_err-draft c =
    let p = err_from_is_err_and c.from_residual.result c.from_residual.ensures.1 in
    rw (p.1, p.2) (broken_more _ _ _ (λ broken h. routes_read c.args.net.now c.args.text.now (Err broken) h) c.in_err-draft.ensures.reads)

pub close-requires : goal.close-requires
close-requires c =
    draft_sound c.args.net.now (content_lines (read_lines c.args.text.now)) c.in_ok-draft.draft
    (drafted_lines (routes_frame c.args.net.now) c.args.text.now c.in_ok-draft.draft c.in_ok-draft.ensures.reads)

pub returns : goal.returns
returns c =
    same_read (λ routes. routes) c.close.result (routes_ended c.in_ok-draft.draft >>= unless_circle c.args.net.now) (routes_in c.args.net.now c.args.text.now)
    (routes_read c.args.net.now c.args.text.now (Ok c.in_ok-draft.draft) c.in_ok-draft.ensures.reads)
    c.close.ensures
