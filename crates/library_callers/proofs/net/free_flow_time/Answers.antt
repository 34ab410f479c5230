use Rattle.std.proofs.Common.{◌≡◌, ◌<◌, ℕ, sym, subst, ◌∙◌}
use Rattle.library_callers.proofs.Labels.{sink_label}
use Rattle.library_callers.proofs.net.free_flow_time.Goals as goal

pub returns : goal.returns
returns c =
    let n = c.in_ok-net.net in
    let at_sink : c.index.result ≡ n.net.sink = c.index.ensures ∙ c.sink-sink.ensures.value in
    let is_node : c.index.result < n.net.nodes = subst (λ (v : ℕ). v < n.net.nodes) (sym c.index.ensures) c.sink-sink.ensures.node in
    (n, c.in_ok-net.ensures, sink_label n.net c.in_ok-labels.labels.items c.index.result c.index-2.result.now c.in_ok-labels.ensures at_sink is_node c.index-2.ensures)
