use Rattle.std.proofs.Common.{sym, ap, ◌∙◌, Ok}
use Rattle.nf_routes.proofs.Common.{err_from_is_err_and, Load, passes_Q, at_part, stops_on, was_ok, err_before, ok_before, routes_of, routes_list, Last}
use Rattle.nf_routes.proofs.Common.{kept_result, kept_list, routed_of}
use Rattle.nf_routes.specs.Carried.{entries_or}
use Rattle.nf_routes.proofs.Whole.{entries_in, with_all}
use Rattle.nf_routes.proofs.carried.carry_routes.Goals as goal

pub returns-in_err-loaded-clause-list : goal.returns-in_err-loaded-clause-list
returns-in_err-loaded-clause-list c =
    let p = err_from_is_err_and c.from_residual.result c.from_residual.ensures.1 in
    let list = routes_list passes_Q c.args.net.now.net (routes_of c.args.routes.now) c.args.horizon in
    rw (p.1, p.2) (stops_on c.in_err-loaded.field-0.0 (at_part Load (kept_list passes_Q Last c.args.net.now.net (routes_of c.args.routes.now) c.args.horizon)) (at_part Load list)
    (λ q k. err_before Load list (kept_result Last) q k) c.in_err-loaded.ensures.list)

pub returns-clause-list : goal.returns-clause-list
returns-clause-list c =
    let list = routes_list passes_Q c.args.net.now.net (routes_of c.args.routes.now) c.args.horizon in
    let w = ok_before Load list (kept_result Last) (routed_of c.in_ok-loaded.loaded) c.in_ok-loaded.ensures.list in
    ap (at_part Load) w.1
    ∙ ap Ok (with_all w.0 (routed_of c.in_ok-loaded.loaded) w.2
    ∙ ap (entries_in (routed_of c.in_ok-loaded.loaded)) (sym (ap entries_or w.1)))

pub returns-clause-routed : goal.returns-clause-routed
returns-clause-routed c = c.in_ok-loaded.ensures.routed _ (was_ok Load (routes_list passes_Q c.args.net.now.net (routes_of c.args.routes.now) c.args.horizon) _ (returns-clause-list c))

pub returns-clause-arrives : goal.returns-clause-arrives
returns-clause-arrives c = c.in_ok-loaded.ensures.arrives _ (was_ok Load (routes_list passes_Q c.args.net.now.net (routes_of c.args.routes.now) c.args.horizon) _ (returns-clause-list c))

pub returns-in_err-loaded-clause-routed : goal.returns-in_err-loaded-clause-routed
returns-in_err-loaded-clause-routed c =
    let p = err_from_is_err_and c.from_residual.result c.from_residual.ensures.1 in
    rw p.1 tt

pub returns-in_err-loaded-clause-arrives : goal.returns-in_err-loaded-clause-arrives
returns-in_err-loaded-clause-arrives c =
    let p = err_from_is_err_and c.from_residual.result c.from_residual.ensures.1 in
    rw p.1 tt
