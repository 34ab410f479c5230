-- The text of a run without a horizon.
use Rattle.std.specs.Prelude.{◌≡◌, ℕ, List, [], ◌∷◌, ◌++◌, length, map, flat_map, Option, Some, None, IfSome, codes}
use Rattle.nf_frac_words.specs.Printed.{printed}
use Rattle.nf_text_def.specs.Words.{line_of_words}
use Rattle.nf_model.specs.Entries.{number_at}
use Rattle.nf_model.specs.Network.{Network}
use Rattle.nf_model.specs.Equilibrium.{HasShape}
use Rattle.nf_net_def.specs.Names.{name_at}
use Rattle.nf_net_def.specs.Named.{Named}
use Rattle.nf_net_def.specs.Causes.{cause_words}
use Rattle.nf_net_def.specs.Report.{HaveRates, label_lines, link_lines, state_lines, for_each}
use Rattle.nf_phase_def.specs.ToEnd.{Tail}
use Rattle.nf_forever_def.specs.ForeverRun.{Forever}

-- The result has as many curves, rates, states, slopes and flows as the text writes.
pub record HasForm (net : Network) (forever : Forever) : Type 0 where
  pub shape : HasShape net forever.flow
  pub inflow_rates : HaveRates forever.flow.inflows
  pub outflow_rates : HaveRates forever.flow.outflows
  pub states : length forever.last ≡ length net.links
  pub tail : IfSome forever.tail (λ tail. (length tail.slopes ≡ net.nodes) × (length tail.flows ≡ length net.links))

-- The lines `slope NODE Q` and `flow LINK Q`.
abbrev pub slope_line : Named → Tail → ℕ → List (List (List ℕ))
slope_line n tail v = (codes "slope" ∷ name_at n.node_names v ∷ printed (number_at tail.slopes v) ∷ []) ∷ []

abbrev pub flow_line : Named → Tail → ℕ → List (List (List ℕ))
flow_line n tail e = (codes "flow" ∷ name_at n.link_names e ∷ printed (number_at tail.flows e) ∷ []) ∷ []

abbrev pub tail_lines : Named → Option Tail → List (List (List ℕ))
tail_lines n None = []
tail_lines n (Some tail) = for_each n.net.nodes (slope_line n tail) ++ for_each (length n.net.links) (flow_line n tail)

-- All lines: the head, the labels of the nodes, the unreached nodes, the curves of the links, the states of the links that have one, the
-- tail, and the end.
abbrev pub forever_lines : Named → Forever → List (List (List ℕ))
forever_lines n forever = (codes "forever" ∷ codes "1" ∷ [])
    ∷ (codes "reached" ∷ printed forever.flow.reached ∷ [])
    ∷ (codes "cause" ∷ cause_words forever.stop)
    ∷ for_each n.net.nodes (label_lines n forever.flow)
    ++ map (λ name. codes "never" ∷ name ∷ []) n.idle_nodes
    ++ for_each (length n.net.links) (link_lines n forever.flow)
    ++ for_each (length n.net.links) (state_lines n forever.last)
    ++ tail_lines n forever.tail
    ++ (codes "end" ∷ []) ∷ []

abbrev pub forever_text : Named → Forever → List ℕ
forever_text n forever = flat_map line_of_words (forever_lines n forever)
