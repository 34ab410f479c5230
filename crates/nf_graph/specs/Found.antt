-- The result of a search for an order.
use Rattle.std.specs.Prelude.{ℕ, Bool, List}
use Rattle.nf_model.specs.Walk.{Hop}
use Rattle.nf_graph.specs.declared.order.OrderOrCycle.{OrderOrCycle}
use Rattle.nf_graph.specs.declared.order.OrderOrCycle.TheVariants.{Order, Cycle}
use Rattle.nf_graph.specs.Order.{IsOrder, IsChosenCycle}

abbrev pub IsFound : ℕ → List Hop → List Bool → OrderOrCycle → Type 0
IsFound nodes hops chosen (Order order) = IsOrder nodes hops chosen order.items
IsFound nodes hops chosen (Cycle cycle) = IsChosenCycle hops chosen cycle.items
