use Rattle.std.proofs.Common.{List, Vec, Global, ◌∙◌}
use Rattle.nf_check.proofs.Common.{err_from_is_err_and, passes_Q, each, seen_flow, Loaded, numbers_of_nodes, numbers_of_links, label_cut, inflow_rule}
use Rattle.nf_check.proofs.Common.{link_rates, loading, points_of_each, loadings_of, done, goes_on, ends, ends_as, tries_as, tries_map, labels_in_number}
use Rattle.nf_check.proofs.Common.{inflows_known}
use Rattle.std.specs.List.{enumerate_from}
use Rattle.nf_load_def.specs.Loading as lists
use Rattle.nf_check_rules.specs.Steps.{worked_list}
use Rattle.nf_check.proofs.checking.load_tested.Goals as goal

pub load_links-requires-clause-labels : goal.load_links-requires-clause-labels
load_links-requires-clause-labels c = labels_in_number passes_Q c.args.net.now.net (seen_flow c.args.flow.now) c.requires.given.checked c.args.labels.now c.requires.labels

pub load_links-requires-clause-hold : goal.load_links-requires-clause-hold
load_links-requires-clause-hold c = inflows_known passes_Q c.args.net.now.net (seen_flow c.args.flow.now) c.requires.given.checked c.in_ok-check_inflows.ensures

pub returns-in_err-check_inflows-clause-list : goal.returns-in_err-check_inflows-clause-list
unfolding worked_list
returns-in_err-check_inflows-clause-list c =
    let p = err_from_is_err_and c.from_residual.result c.from_residual.ensures.1 in
    rw (p.1, p.2) (ends_as c.in_err-check_inflows.field-0.0 (worked_list passes_Q c.args.net.now.net (seen_flow c.args.flow.now)) _
    (goes_on (each (label_cut passes_Q c.args.net.now.net (seen_flow c.args.flow.now)) (numbers_of_nodes c.args.net.now.net)) _ (points_of_each c.args.labels.now) c.requires.labels)
    (ends c.in_err-check_inflows.field-0.0 (done (each (inflow_rule passes_Q c.args.net.now.net (seen_flow c.args.flow.now)) (numbers_of_links c.args.net.now.net)))
    _ c.in_err-check_inflows.ensures))

pub returns-in_err-check_rates-clause-list : goal.returns-in_err-check_rates-clause-list
unfolding worked_list
returns-in_err-check_rates-clause-list c =
    let p = err_from_is_err_and c.from_residual-in_err-check_rates.result c.from_residual-in_err-check_rates.ensures.1 in
    rw (p.1, p.2) (ends_as c.in_err-check_rates.field-0.0 (worked_list passes_Q c.args.net.now.net (seen_flow c.args.flow.now)) _
    (goes_on (each (label_cut passes_Q c.args.net.now.net (seen_flow c.args.flow.now)) (numbers_of_nodes c.args.net.now.net)) _ (points_of_each c.args.labels.now) c.requires.labels
    ∙ goes_on (done (each (inflow_rule passes_Q c.args.net.now.net (seen_flow c.args.flow.now)) (numbers_of_links c.args.net.now.net))) _ tt c.in_ok-check_inflows.ensures)
    (ends c.in_err-check_rates.field-0.0 (done (each (link_rates passes_Q c.args.net.now.net (seen_flow c.args.flow.now)) (numbers_of_links c.args.net.now.net))) _ c.in_err-check_rates.ensures))

pub returns-clause-list : goal.returns-clause-list
unfolding worked_list
returns-clause-list c =
    tries_as (λ (loaded : Vec Loaded Global). (points_of_each c.args.labels.now, loadings_of loaded.items)) c.load_links.result
    (worked_list passes_Q c.args.net.now.net (seen_flow c.args.flow.now)) _
    (goes_on (each (label_cut passes_Q c.args.net.now.net (seen_flow c.args.flow.now)) (numbers_of_nodes c.args.net.now.net)) _ (points_of_each c.args.labels.now) c.requires.labels
    ∙ goes_on (done (each (inflow_rule passes_Q c.args.net.now.net (seen_flow c.args.flow.now)) (numbers_of_links c.args.net.now.net))) _ tt c.in_ok-check_inflows.ensures
    ∙ goes_on (done (each (link_rates passes_Q c.args.net.now.net (seen_flow c.args.flow.now)) (numbers_of_links c.args.net.now.net))) _ tt c.in_ok-check_rates.ensures)
    (tries_map (λ (loaded : Vec Loaded Global). loadings_of loaded.items) (λ (loaded : List lists.Loaded). (points_of_each c.args.labels.now, loaded)) c.load_links.result
    (each (loading passes_Q c.args.net.now.net (seen_flow c.args.flow.now) (points_of_each c.args.labels.now)) (enumerate_from 0 c.args.net.now.net.links)) c.load_links.ensures.list)
