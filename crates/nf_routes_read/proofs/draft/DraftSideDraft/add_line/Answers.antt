use Rattle.std.proofs.Common.{sym, ap, ◌∙◌}
use Rattle.nf_routes_read.proofs.Common.{RoutesDraft}
use Rattle.nf_routes_read.proofs.RouteSteps.{entry_breaks}
use Rattle.nf_routes_read.proofs.draft.DraftSideDraft.add_line.Goals as goal

pub returns-in-Err-clause-adds : goal.returns-in-Err-clause-adds
returns-in-Err-clause-adds c =
    entry_breaks c.args.net.now c.args.self.now c.args.line.now.words c.deref.result.now c.in-Err.fault
    (sym (ap (λ (d : RoutesDraft). d.ended) c.self.view_is) ∙ c.if-self.false)
    (c.deref.ensures.value ∙ ap (λ (d : RoutesDraft). d.routes) c.self.view_is)
    c.in-Err.ensures.says
