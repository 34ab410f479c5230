use Rattle.std.proofs.Common.{◌≡◌, List, length, Ok, Err, sym, ap, ◌∙◌}
use Rattle.nf_load.proofs.Common.{err_from_is_err_and, Piece, as_many_names, broken_more, if_ended, loads_in}
use Rattle.nf_report_def.specs.declared.LoadRule.{LoadRule}
use Rattle.nf_report_laws.proofs.Loads.{loads-pieces}
use Rattle.nf_load.proofs.LoadsRead.{loads_read}
use Rattle.nf_load.proofs.reading.parse_loads.Goals as goal

pub returns-in_err-draft-clause-reads : goal.returns-in_err-draft-clause-reads
returns-in_err-draft-clause-reads c =
    let p = err_from_is_err_and c.from_residual.result c.from_residual.ensures.1 in
    rw (p.1, p.2) (broken_more _ _ _ (λ broken h. loads_read c.args.net.now c.args.text.now (Err broken) h) c.in_err-draft.ensures.reads)

pub returns-in_err-links-clause-reads : goal.returns-in_err-links-clause-reads
returns-in_err-links-clause-reads c =
    let p = err_from_is_err_and c.from_residual-in_err-links.result c.from_residual-in_err-links.ensures.1 in
    rw (p.1, p.2) (broken_more {Rule = LoadRule} _ (λ broken. if_ended c.in_ok-draft.draft ≡ Err broken) (λ broken. loads_in c.args.net.now c.args.text.now ≡ Err broken)
    (λ broken h. loads_read c.args.net.now c.args.text.now (Ok c.in_ok-draft.draft) c.in_ok-draft.ensures.reads ∙ h)
    c.in_err-links.ensures)

pub kept-requires : goal.kept-requires
kept-requires c =
    let read = loads_read c.args.net.now c.args.text.now (Ok c.in_ok-draft.draft) c.in_ok-draft.ensures.reads ∙ c.in_ok-links.ensures in
    record { each = (loads-pieces c.args.net.now c.args.text.now c.in_ok-links.links.items read).1 }

pub returns-clause-reads : goal.returns-clause-reads
returns-clause-reads c =
    loads_read c.args.net.now c.args.text.now (Ok c.in_ok-draft.draft) c.in_ok-draft.ensures.reads
    ∙ c.in_ok-links.ensures
    ∙ ap (λ (l : List (List Piece)). Ok l) (sym c.kept.ensures)

pub returns-clause-links : goal.returns-clause-links
returns-clause-links c =
    let read = loads_read c.args.net.now c.args.text.now (Ok c.in_ok-draft.draft) c.in_ok-draft.ensures.reads ∙ c.in_ok-links.ensures in
    ap (λ (l : List (List Piece)). length l) c.kept.ensures
    ∙ (loads-pieces c.args.net.now c.args.text.now c.in_ok-links.links.items read).0
    ∙ as_many_names c.args.net.now c.recall.ensures
