use Rattle.std.proofs.Common.{◌≡◌, ℕ, true, List, sym, ap, subst, ◌∙◌}
use Rattle.nf_routes_links.proofs.Common.{ArePieces, err_from_is_err_and, Load, passes_Q, at_part, stops_on, begins_at, begin_if, first_entry}
use Rattle.nf_routes_links.proofs.Passed.{begin_passes}
use Rattle.nf_routes_links.proofs.entries.begin.Goals as goal

pub first_entry-requires-clause-horizon : goal.first_entry-requires-clause-horizon
first_entry-requires-clause-horizon c = c.requires.horizon

pub returns-in_err-first : goal.returns-in_err-first
returns-in_err-first c =
    let p = err_from_is_err_and c.from_residual.result c.from_residual.ensures.1 in
    let yes : begins_at c.args.route.now.route.links c.args.link ≡ true = ap (λ (l : List ℕ). begins_at l c.args.link) (sym c.links.ensures)
    ∙ sym c.begins_with.ensures ∙ c.if-begins_with.true in
    rw (p.1, p.2) (stops_on c.in_err-first.field-0.0 (at_part Load (first_entry passes_Q c.pieces.result.now c.args.horizon))
    (at_part Load (begin_if passes_Q (begins_at c.args.route.now.route.links c.args.link) c.args.horizon c.args.route.now.route c.args.sent.now))
    (λ q e. begin_passes passes_Q _ yes q c.args.horizon c.args.route.now.route c.pieces.result.now c.args.sent.now c.pieces.ensures e) c.in_err-first.ensures)

pub first_entry-requires-clause-pieces : goal.first_entry-requires-clause-pieces
first_entry-requires-clause-pieces c = subst ArePieces (sym c.pieces.ensures) c.requires.pieces
