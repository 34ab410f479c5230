use Rattle.std.proofs.Common.{◌<◌, ◌≤◌, List, length, ap, ◌∙◌, arith}
use Rattle.nf_check_rules.proofs.Common.{map-append, err_from_is_err_and, passes_Q, loading, seen_flow, loaded_of, Loaded, points_of_each, loadings_of}
use Rattle.nf_check_rules.proofs.Known.{loaded_in_number}
use Rattle.nf_check_rules.proofs.Looping.{keep_first, keep_ends, keep_goes, keep_last, link_there}
use Rattle.nf_check_rules.proofs.loads.load_links.Goals as goal

pub loop-number-init : goal.loop-number-init
loop-number-init c =
    keep_first (loading passes_Q c.args.net.now.net (seen_flow c.args.flow.now) (points_of_each c.args.labels.now)) c.args.net.now.net.links
    (loadings_of c.in_ok-loaded.loaded.items) (ap (λ (l : List Loaded). loadings_of l) c.in_ok-loaded.ensures.items)

pub returns-in_err-one-clause-list : goal.returns-in_err-one-clause-list
returns-in_err-one-clause-list c =
    let p = err_from_is_err_and c.from_residual-in_err-one.result c.from_residual-in_err-one.ensures.1 in
    let inside : c.loop-number.number < length c.args.net.now.net.links = omega arith in
    let there = link_there c.args.net.now.net.links c.loop-number.number inside in
    rw (p.1, p.2) (keep_ends (loading passes_Q c.args.net.now.net (seen_flow c.args.flow.now) (points_of_each c.args.labels.now)) c.args.net.now.net.links
    c.loop-number.number (loadings_of c.loop-number.loaded.items) c.loop-number.invariant there.link there.is c.in_err-one.field-0.0
    (c.in_err-one.ensures there.link there.is))

pub loop-number-preserved : goal.loop-number-preserved
loop-number-preserved c =
    let inside : c.loop-number.number < length c.args.net.now.net.links = omega arith in
    let there = link_there c.args.net.now.net.links c.loop-number.number inside in
    keep_goes (loading passes_Q c.args.net.now.net (seen_flow c.args.flow.now) (points_of_each c.args.labels.now)) c.args.net.now.net.links c.loop-number.number
    (loadings_of c.loop-number.loaded.items) c.loop-number.invariant there.link there.is (loaded_of c.in_ok-one.one) (loadings_of c.push.new.self.items)
    (c.in_ok-one.ensures there.link there.is)
    (ap (λ (l : List Loaded). loadings_of l) c.in_ok-push.ensures.items ∙ map-append loaded_of c.loop-number.loaded.items _)

pub returns-clause-list : goal.returns-clause-list
returns-clause-list c =
    let past : length c.args.net.now.net.links ≤ c.loop-number.number = omega arith in
    keep_last (loading passes_Q c.args.net.now.net (seen_flow c.args.flow.now) (points_of_each c.args.labels.now)) c.args.net.now.net.links c.loop-number.number
    (loadings_of c.loop-number.loaded.items) c.loop-number.invariant past

pub returns-clause-count : goal.returns-clause-count
returns-clause-count c =
    let past : length c.args.net.now.net.links ≤ c.loop-number.number = omega arith in
    loaded_in_number passes_Q c.args.net.now.net (seen_flow c.args.flow.now) (points_of_each c.args.labels.now) c.loop-number.loaded.items
    (keep_last (loading passes_Q c.args.net.now.net (seen_flow c.args.flow.now) (points_of_each c.args.labels.now)) c.args.net.now.net.links c.loop-number.number
    (loadings_of c.loop-number.loaded.items) c.loop-number.invariant past)

pub load-requires-clause-inflow : goal.load-requires-clause-inflow
load-requires-clause-inflow c =
    let inside : c.loop-number.number < length c.args.net.now.net.links = omega arith in
    c.requires.hold c.loop-number.number inside
