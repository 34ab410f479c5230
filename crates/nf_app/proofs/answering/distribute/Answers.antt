use Rattle.nf_app.proofs.Common.{err_from_is_err_and, routes_of, carried_of}
use Rattle.nf_app.proofs.RoutesResult.{routes_refused, distributing_stopped, distributed_given, routed_counts}
use Rattle.nf_app.proofs.answering.distribute.Goals as goal

pub returns-in_err-routes : goal.returns-in_err-routes
returns-in_err-routes c file name =
    let p = err_from_is_err_and c.from_residual.result c.from_residual.ensures.1 in
    rw (p.1, p.2) (routes_refused c.args.net.now file name c.args.horizon c.args.text.now c.in_err-routes.field-0.0 c.in_err-routes.ensures.reads)

pub returns-in_err-routed : goal.returns-in_err-routed
returns-in_err-routed c file name =
    let p = err_from_is_err_and c.from_residual-in_err-routed.result c.from_residual-in_err-routed.ensures.1 in
    rw (p.1, p.2) (distributing_stopped c.args.net.now file name c.args.horizon c.args.text.now c.in_ok-routes.routes c.in_ok-routes.ensures.reads
    c.in_err-routed.field-0.0 c.in_err-routed.ensures.list)

pub returns : goal.returns
returns c file name =
    let e = c.in_ok-routed.ensures in (
      distributed_given c.args.net.now file name c.args.horizon c.args.text.now c.in_ok-routes.routes c.in_ok-routes.ensures.reads
          (carried_of c.args.net.now.net (routes_of c.in_ok-routes.routes) c.args.horizon c.in_ok-routed.routed) e.list e.routed e.arrives,
      routed_counts c.args.net.now.net c.in_ok-routes.routes c.args.horizon c.in_ok-routed.routed e.routed,
    )
