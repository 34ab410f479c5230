use Rattle.std.proofs.Common.{refl, subst}
use Rattle.nf_graph.proofs.Common.{IsFound, OrderOrCycle, IsOrder, IsChosenCycle, true≢false}
use Rattle.nf_graph.proofs.Orders.{IsOrder-no_cycle}
use Rattle.nf_graph.proofs.order.topological.Goals as goal

pub returns-in-Order-clause-none : goal.returns-in-Order-clause-none
returns-in-Order-clause-none c =
    let order : IsOrder c.args.nodes c.args.hops.now c.args.chosen.now c.in-Order.order.items =
    subst (λ (f : OrderOrCycle). IsFound c.args.nodes c.args.hops.now c.args.chosen.now f) c.in-Order.is c.in_ok-order.ensures in
    (λ e. absurd (true≢false e), λ x. absurd (IsOrder-no_cycle c.args.nodes c.args.hops.now c.args.chosen.now c.in-Order.order.items x.0 c.requires.ends order x.1))

pub returns-in-Order-clause-order : goal.returns-in-Order-clause-order
returns-in-Order-clause-order c = subst (λ (f : OrderOrCycle). IsFound c.args.nodes c.args.hops.now c.args.chosen.now f) c.in-Order.is c.in_ok-order.ensures

pub returns-clause-none : goal.returns-clause-none
returns-clause-none c =
    let cycle : IsChosenCycle c.args.hops.now c.args.chosen.now c.in-Cycle.field-0.items =
    subst (λ (f : OrderOrCycle). IsFound c.args.nodes c.args.hops.now c.args.chosen.now f) c.in-Cycle.is c.in_ok-order.ensures in
    (λ _. (c.in-Cycle.field-0.items, cycle), λ _. refl)
