use Rattle.std.proofs.Common.{List}
use Rattle.nf_routes_links.proofs.Common.{err_from_is_err_and, Load, passes_Q, at_part, Point, after_err, stops_on, checked_short, checked_cumulative}
use Rattle.nf_routes_links.proofs.Common.{first_entry}
use Rattle.nf_routes_links.proofs.entries.first_entry.Goals as goal

pub returns-in_err-amounts : goal.returns-in_err-amounts
returns-in_err-amounts c =
    let p = err_from_is_err_and c.from_residual.result c.from_residual.ensures.1 in
    rw (p.1, p.2) (stops_on c.in_err-amounts.field-0.0 (at_part Load (checked_cumulative passes_Q c.args.pieces.now c.args.horizon))
    (at_part Load (first_entry passes_Q c.args.pieces.now c.args.horizon))
    (λ q e. after_err Load (checked_cumulative passes_Q c.args.pieces.now c.args.horizon) (λ (l : List Point). checked_short passes_Q l) q e) c.in_err-amounts.ensures.list)
