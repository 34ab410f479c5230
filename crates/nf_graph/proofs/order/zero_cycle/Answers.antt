use Rattle.std.proofs.Common.{◌≡◌, length, ap, refl, subst, ◌∙◌}
use Rattle.nf_graph.proofs.Common.{length-map, true≢false, IsFound, OrderOrCycle, IsOrder, IsZeroCycle}
use Rattle.nf_graph.proofs.Orders.{IsOrder-no_cycle}
use Rattle.nf_graph.proofs.ZeroLinks.{zero_flags, zero_of_chosen, chosen_of_zero}
use Rattle.nf_graph.proofs.order.zero_cycle.Goals as goal

pub returns-in-Order-clause-none : goal.returns-in-Order-clause-none
returns-in-Order-clause-none c =
    let flags : c.deref.result.now ≡ zero_flags c.args.hops.now = c.deref.ensures.value ∙ c.in_ok-chosen.ensures in
    let order : IsOrder c.args.nodes c.args.hops.now c.deref.result.now c.in-Order.field-0.items =
    subst (λ (f : OrderOrCycle). IsFound c.args.nodes c.args.hops.now c.deref.result.now f) c.in-Order.is c.in_ok-order_or_cycle.ensures in (
      λ _ cycle x. IsOrder-no_cycle c.args.nodes c.args.hops.now c.deref.result.now c.in-Order.field-0.items cycle c.requires.ends order
          (chosen_of_zero c.args.hops.now c.deref.result.now cycle flags x),
      λ _. refl,
    )

pub returns-clause-cycle : goal.returns-clause-cycle
returns-clause-cycle c = zero_of_chosen c.args.hops.now c.deref.result.now c.in-Cycle.cycle.items (c.deref.ensures.value ∙ c.in_ok-chosen.ensures)
    (subst (λ (f : OrderOrCycle). IsFound c.args.nodes c.args.hops.now c.deref.result.now f) c.in-Cycle.is c.in_ok-order_or_cycle.ensures)

pub returns-clause-none : goal.returns-clause-none
returns-clause-none c =
    let cycle : IsZeroCycle c.args.hops.now c.in-Cycle.cycle.items = zero_of_chosen c.args.hops.now c.deref.result.now c.in-Cycle.cycle.items
    (c.deref.ensures.value ∙ c.in_ok-chosen.ensures)
    (subst (λ (f : OrderOrCycle). IsFound c.args.nodes c.args.hops.now c.deref.result.now f) c.in-Cycle.is c.in_ok-order_or_cycle.ensures) in
    (λ e. absurd (true≢false e), λ none. absurd (none c.in-Cycle.cycle.items cycle))

pub order_or_cycle-requires-clause-count : goal.order_or_cycle-requires-clause-count
order_or_cycle-requires-clause-count c = ap length (c.deref.ensures.value ∙ c.in_ok-chosen.ensures) ∙ length-map c.args.hops.now _
