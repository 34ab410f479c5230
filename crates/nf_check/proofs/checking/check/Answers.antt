use Rattle.nf_check.proofs.Common.{passes_Q, seen_flow}
use Rattle.nf_check.proofs.Answering.{by_list, rules_answer, is_exact, given_by}
use Rattle.nf_check.proofs.checking.check.Goals as goal

pub test_all-requires : goal.test_all-requires
test_all-requires c =
    (given_by c.args.net.now.net c.args.flow.now c.recall.ensures.network c.requires.labels c.requires.inflows c.requires.outflows c.requires.queues
    c.requires.inflow_rates c.requires.outflow_rates c.requires.reached c.deref.result.now c.deref-4.result.now c.deref-2.result.now c.deref-3.result.now
    c.deref.ensures.value c.deref-2.ensures.value c.deref-3.ensures.value c.deref-4.ensures.value c.know_curves.ensures c.know_traces.ensures
    c.know_traces-2.ensures c.know_curves-2.ensures)

pub returns-clause-list : goal.returns-clause-list
returns-clause-list c = by_list passes_Q c.args.net.now.net (seen_flow c.args.flow.now) c.answer_of.result (c.answer_of.ensures _ c.test_all.ensures)

pub returns-clause-rules : goal.returns-clause-rules
returns-clause-rules c =
    rules_answer passes_Q c.args.net.now.net (seen_flow c.args.flow.now) (given_by c.args.net.now.net c.args.flow.now c.recall.ensures.network
    c.requires.labels c.requires.inflows c.requires.outflows c.requires.queues c.requires.inflow_rates c.requires.outflow_rates c.requires.reached
    c.deref.result.now c.deref-4.result.now c.deref-2.result.now c.deref-3.result.now c.deref.ensures.value c.deref-2.ensures.value c.deref-3.ensures.value
    c.deref-4.ensures.value c.know_curves.ensures c.know_traces.ensures c.know_traces-2.ensures c.know_curves-2.ensures).checked c.answer_of.result
    (by_list passes_Q c.args.net.now.net (seen_flow c.args.flow.now) c.answer_of.result (c.answer_of.ensures _ c.test_all.ensures))

pub returns-clause-exact : goal.returns-clause-exact
returns-clause-exact c =
    is_exact passes_Q c.args.net.now.net (seen_flow c.args.flow.now) (given_by c.args.net.now.net c.args.flow.now c.recall.ensures.network c.requires.labels
    c.requires.inflows c.requires.outflows c.requires.queues c.requires.inflow_rates c.requires.outflow_rates c.requires.reached c.deref.result.now
    c.deref-4.result.now c.deref-2.result.now c.deref-3.result.now c.deref.ensures.value c.deref-2.ensures.value c.deref-3.ensures.value
    c.deref-4.ensures.value c.know_curves.ensures c.know_traces.ensures c.know_traces-2.ensures c.know_curves-2.ensures).checked c.answer_of.result
    (by_list passes_Q c.args.net.now.net (seen_flow c.args.flow.now) c.answer_of.result (c.answer_of.ensures _ c.test_all.ensures))
