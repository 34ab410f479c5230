use Rattle.std.proofs.Common.{ap, ◌∙◌}
use Rattle.nf_complete_conditions.proofs.Common.{Link, IsLink-unique}
use Rattle.nf_complete_conditions.proofs.Stating.{leads_level, leads_bare, leads_told}
use Rattle.nf_complete_conditions.proofs.states.leads_to_bare.Goals as goal

pub returns-then-not-is_level_into : goal.returns-then-not-is_level_into
returns-then-not-is_level_into c = λ here p.
    let at = ap (λ (l : Link). l.head) (c.node.view_is ∙ IsLink-unique c.args.net.now.net c.args.link c.link.result here c.link.ensures.link p) in
    λ l. c.if-not-is_level_into.ensures (leads_level c.args.net.now.net c.args.sets.now c.args.flows.now c.args.slopes.now c.args.link here p c.node.inside.head at l)

pub returns-then-not-is_bare : goal.returns-then-not-is_bare
returns-then-not-is_bare c = λ here p.
    let at = ap (λ (l : Link). l.head) (c.node.view_is ∙ IsLink-unique c.args.net.now.net c.args.link c.link.result here c.link.ensures.link p) in
    λ l. c.if-not-is_bare.ensures (leads_bare c.args.net.now.net c.args.sets.now c.args.flows.now c.args.slopes.now c.args.link here p c.node.inside.head at l)

pub returns : goal.returns
returns c = λ here p.
    let at = ap (λ (l : Link). l.head) (c.node.view_is ∙ IsLink-unique c.args.net.now.net c.args.link c.link.result here c.link.ensures.link p) in
    leads_told c.args.net.now.net c.args.sets.now c.args.flows.now c.args.slopes.now c.args.link here p c.node.inside.head at c.none_level_before.result
    c.if-not-is_level_into.ensures c.if-not-is_bare.ensures c.none_level_before.ensures
