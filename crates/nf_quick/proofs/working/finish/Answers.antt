use Rattle.std.proofs.Common.{List, length, sym, ap, ◌∙◌, Option}
use Rattle.nf_quick.proofs.Common.{err_from_is_err_and, ℚ, passes_Q}
use Rattle.nf_quick.proofs.Finishing.{walks_stop, source_stops, sink_stops, cut_stops, value_passes, finished}
use Rattle.nf_quick.proofs.working.finish.Goals as goal

pub value_of-requires : goal.value_of-requires
value_of-requires c =
    ap (λ (l : List ℚ). length l) c.deref-3.ensures.value ∙ c.in_ok-cut.ensures.count ∙ ap (λ (l : List (Option ℚ)). length l) c.deref.ensures.value
    ∙ c.in_ok-from_source.ensures.least.count

pub flows_of-requires : goal.flows_of-requires
flows_of-requires c = c.requires

pub distances-requires-clause-sound : goal.distances-requires-clause-sound
distances-requires-clause-sound c = c.requires

pub distances-requires-2-clause-sound : goal.distances-requires-2-clause-sound
distances-requires-2-clause-sound c = c.requires

pub returns-in_err-flows : goal.returns-in_err-flows
returns-in_err-flows c = λ amount.
    let p = err_from_is_err_and c.from_residual.result c.from_residual.ensures.1 in
    rw (p.1, p.2) tt

pub walks_off-requires : goal.walks_off-requires
walks_off-requires c = ap (λ (l : List ℚ). length l) c.in_ok-flows.ensures ∙ c.requires.flow.count

pub distances-requires-clause-from : goal.distances-requires-clause-from
distances-requires-clause-from c = c.source.ensures.node

pub distances-requires-2-clause-from : goal.distances-requires-2-clause-from
distances-requires-2-clause-from c = c.sink.ensures.node

pub node_times-requires : goal.node_times-requires
node_times-requires c =
    ap (λ (l : List (Option ℚ)). length l) c.deref-2.ensures.value ∙ c.in_ok-from_sink.ensures.least.count
    ∙ sym (ap (λ (l : List (Option ℚ)). length l) c.deref.ensures.value ∙ c.in_ok-from_source.ensures.least.count)

pub returns-in_err-walks : goal.returns-in_err-walks
returns-in_err-walks c = λ amount.
    let p = err_from_is_err_and c.from_residual-in_err-walks.result c.from_residual-in_err-walks.ensures.1 in
    rw (p.1, p.2) (walks_stop passes_Q c.args.net.now.net amount c.args.flow.now c.in_ok-flows.flows.items c.args.time c.in_ok-flows.ensures
    c.in_err-walks.field-0.0 c.in_err-walks.ensures)

pub returns-in_err-from_source : goal.returns-in_err-from_source
returns-in_err-from_source c = λ amount.
    let p = err_from_is_err_and c.from_residual-in_err-from_source.result c.from_residual-in_err-from_source.ensures.1 in
    rw (p.1, p.2) (source_stops passes_Q c.args.net.now.net amount c.args.flow.now c.in_ok-flows.flows.items c.args.time c.in_ok-flows.ensures
    c.in_ok-walks.walks.items c.in_ok-walks.ensures c.source.result c.source.ensures.value
    c.in_err-from_source.field-0.0 c.in_err-from_source.ensures.list)

pub returns-in_err-from_sink : goal.returns-in_err-from_sink
returns-in_err-from_sink c = λ amount.
    let p = err_from_is_err_and c.from_residual-in_err-from_sink.result c.from_residual-in_err-from_sink.ensures.1 in
    rw (p.1, p.2) (sink_stops passes_Q c.args.net.now.net amount c.args.flow.now c.in_ok-flows.flows.items c.args.time c.in_ok-flows.ensures
    c.in_ok-walks.walks.items c.in_ok-walks.ensures c.source.result c.source.ensures.value
    c.in_ok-from_source.from_source.items c.in_ok-from_source.ensures.list c.sink.result c.sink.ensures.value
    c.in_err-from_sink.field-0.0 c.in_err-from_sink.ensures.list)

pub returns-in_err-cut : goal.returns-in_err-cut
returns-in_err-cut c = λ amount.
    let p = err_from_is_err_and c.from_residual-in_err-cut.result c.from_residual-in_err-cut.ensures.1 in
    rw (p.1, p.2) (cut_stops passes_Q c.args.net.now.net amount c.args.flow.now c.in_ok-flows.flows.items c.args.time c.in_ok-flows.ensures
    c.in_ok-walks.walks.items c.in_ok-walks.ensures c.source.result c.source.ensures.value
    c.in_ok-from_source.from_source.items c.in_ok-from_source.ensures.list c.sink.result c.sink.ensures.value
    c.in_ok-from_sink.from_sink.items c.in_ok-from_sink.ensures.list c.deref.result.now c.deref-2.result.now c.deref.ensures.value c.deref-2.ensures.value
    c.in_err-cut.field-0.0 c.in_err-cut.ensures.list)

pub returns-in_err-value : goal.returns-in_err-value
returns-in_err-value c = λ amount.
    let p = err_from_is_err_and c.from_residual-in_err-value.result c.from_residual-in_err-value.ensures.1 in
    rw (p.1, p.2) (value_passes passes_Q c.args.net.now.net amount c.args.flow.now c.in_ok-flows.flows.items c.args.time c.in_ok-flows.ensures
    c.in_ok-walks.walks.items c.in_ok-walks.ensures c.source.result c.source.ensures.value
    c.in_ok-from_source.from_source.items c.in_ok-from_source.ensures.list c.sink.result c.sink.ensures.value
    c.in_ok-from_sink.from_sink.items c.in_ok-from_sink.ensures.list c.deref.result.now c.deref-2.result.now c.deref.ensures.value c.deref-2.ensures.value
    c.in_ok-cut.cut.items c.deref-3.result.now c.in_ok-cut.ensures.list c.deref-3.ensures.value
    c.in_err-value.field-0.0 c.in_err-value.ensures)

pub returns : goal.returns
returns c = λ amount.
    finished passes_Q c.args.net.now.net amount c.args.flow.now c.in_ok-flows.flows.items c.args.time c.in_ok-flows.ensures
    c.in_ok-walks.walks.items c.in_ok-walks.ensures c.source.result c.source.ensures.value
    c.in_ok-from_source.from_source.items c.in_ok-from_source.ensures.list c.sink.result c.sink.ensures.value
    c.in_ok-from_sink.from_sink.items c.in_ok-from_sink.ensures.list c.deref.result.now c.deref-2.result.now c.deref.ensures.value c.deref-2.ensures.value
    c.in_ok-cut.cut.items c.deref-3.result.now c.in_ok-cut.ensures.list c.deref-3.ensures.value
    c.in_ok-value.value c.in_ok-value.ensures
