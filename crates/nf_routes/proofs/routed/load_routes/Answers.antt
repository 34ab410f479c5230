use Rattle.std.proofs.Common.{subst, ap, Result}
use Rattle.nf_routes.proofs.Common.{ℚ, Load, PassedAt, passes_Q, Gives, at_part, routes_of, Routed, routes_list, routed_of}
use Rattle.nf_frac_def.proofs.Binding.{bind_end}
use Rattle.nf_routes_def.specs.Meanings.{IsRouted, RoutesArrive}
use Rattle.nf_routes_links.proofs.Sharing.{gives_ok}
use Rattle.nf_routes.proofs.routed.load_routes.Goals as goal

pub returns-clause-list : goal.returns-clause-list
returns-clause-list c = subst (λ (r : Result Routed (PassedAt ℚ)). Gives routed_of (λ (q : ℚ). q) c.load_kept.result r)
    (ap (at_part Load) (bind_end (routes_list passes_Q c.args.net.now.net (routes_of c.args.routes.now) c.args.horizon))) c.load_kept.ensures.list

pub returns-clause-routed : goal.returns-clause-routed
returns-clause-routed c = gives_ok routed_of c.load_kept.result (routes_list passes_Q c.args.net.now.net (routes_of c.args.routes.now) c.args.horizon)
    (IsRouted c.args.net.now.net (routes_of c.args.routes.now) c.args.horizon) (returns-clause-list c) c.load_kept.ensures.routed

pub returns-clause-arrives : goal.returns-clause-arrives
returns-clause-arrives c = gives_ok routed_of c.load_kept.result (routes_list passes_Q c.args.net.now.net (routes_of c.args.routes.now) c.args.horizon)
    (RoutesArrive c.args.net.now.net (routes_of c.args.routes.now) c.args.horizon) (returns-clause-list c) c.load_kept.ensures.arrives
