use Rattle.std.proofs.Common.{◌≡◌, length, Ok, Err, ◌∙◌}
use Rattle.nf_complete_read.proofs.Common.{err_from_is_err_and, IfOk-weaker, broken_more, same_read, if_ended, flows_in}
use Rattle.nf_complete_read.specs.Files.{given_of}
use Rattle.nf_complete_read.proofs.FlowsRead.{flows_read}
use Rattle.nf_complete_read.proofs.reading.parse_flows.Goals as goal

pub returns-in_err-draft-clause-reads : goal.returns-in_err-draft-clause-reads
returns-in_err-draft-clause-reads c =
    let p = err_from_is_err_and c.from_residual.result c.from_residual.ensures.1 in
    rw (p.1, p.2) (broken_more _ _ _ (λ broken h. flows_read c.args.net.now c.args.text.now (Err broken) h) c.in_err-draft.ensures.reads)

pub returns-clause-reads : goal.returns-clause-reads
returns-clause-reads c =
    same_read given_of c.close.result (if_ended c.in_ok-draft.draft) (flows_in c.args.net.now c.args.text.now)
    (flows_read c.args.net.now c.args.text.now (Ok c.in_ok-draft.draft) c.in_ok-draft.ensures.reads)
    c.close.ensures.closes

pub returns-clause-links : goal.returns-clause-links
returns-clause-links c =
    IfOk-weaker c.close.result _ (λ flows. length flows.flows.items ≡ length c.args.net.now.net.links)
    (λ flows e. e ∙ (c.in_ok-draft.ensures.fits.links ∙ c.recall.ensures.numbered.links)) c.close.ensures.flows

pub returns-clause-nodes : goal.returns-clause-nodes
returns-clause-nodes c =
    IfOk-weaker c.close.result _ (λ flows. length flows.slopes.items ≡ c.args.net.now.net.nodes)
    (λ flows e. e ∙ (c.in_ok-draft.ensures.fits.nodes ∙ c.recall.ensures.numbered.nodes)) c.close.ensures.slopes
