use Rattle.std.proofs.Common.{◌∙◌}
use Rattle.nf_net.proofs.Common.{seen_draft, broken_more}
use Rattle.std.proofs.lemmas.Result.{err_from_is_err_and}
use Rattle.nf_net.proofs.Closes.{reads_broken, reads_all}
use Rattle.nf_net.proofs.reading.parse.Goals as goal

pub returns-in_err-lines : goal.returns-in_err-lines
returns-in_err-lines c =
    let p = err_from_is_err_and c.from_residual.result c.from_residual.ensures.1 in
    rw (p.1, p.2) c.in_err-lines.ensures.fault

pub returns-in_err-draft : goal.returns-in_err-draft
returns-in_err-draft c =
    let p = err_from_is_err_and c.from_residual-in_err-draft.result c.from_residual-in_err-draft.ensures.1 in
    rw (p.1, p.2) (broken_more _ _ _
    (λ broken h. reads_broken c.args.text.now c.deref.result.now (c.deref.ensures.value ∙ c.in_ok-lines.ensures.lines) c.in_ok-lines.ensures.fine broken h)
    c.in_err-draft.ensures)

pub close-requires : goal.close-requires
close-requires c = record { lines = c.deref.result.now; read = c.in_ok-draft.ensures }

pub returns : goal.returns
returns c =
    reads_all c.args.text.now c.deref.result.now (c.deref.ensures.value ∙ c.in_ok-lines.ensures.lines) c.in_ok-lines.ensures.fine (seen_draft c.in_ok-draft.draft) c.close.result
    c.in_ok-draft.ensures c.close.ensures
