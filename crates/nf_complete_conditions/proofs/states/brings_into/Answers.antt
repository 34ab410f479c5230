use Rattle.nf_complete_conditions.proofs.Common.{LeadsInto, Brings, BringsInto}
use Rattle.nf_complete_conditions.proofs.Deciding.{says_like}
use Rattle.nf_complete_conditions.proofs.states.brings_into.Goals as goal

pub returns : goal.returns
returns c =
    let leads : LeadsInto c.args.net.now.net c.args.sets.now c.args.node c.args.link = c.if-not-leads_into.ensures in
    says_like c.brings.result (λ (b : Brings c.args.sets.now c.args.flows.now c.args.link). (leads, b))
    (λ (w : BringsInto c.args.net.now.net c.args.sets.now c.args.flows.now c.args.node c.args.link). w.1) c.brings.ensures
