use Rattle.std.proofs.Common.{ℕ, ◌<◌, ◌≤◌, List, [], ◌∷◌, length, drop, refl, sym, ap, subst, ◌∙◌, arith}
use Rattle.nf_routes_links.proofs.Common.{length-map, drop_all, slice_get_read, err_from_is_err_and, 0ℚ, Load, passes_Q, at_part, slice_get-image, Route}
use Rattle.nf_routes_links.proofs.Common.{sum_from, NamedRoute, routes_of, Sends}
use Rattle.nf_routes_links.proofs.Folds.{along_at, along-count, sums_stop, sums_go}
use Rattle.nf_routes_links.proofs.entries.inflow_of.Goals as goal

pub bounds-entries-i : goal.bounds-entries-i
bounds-entries-i c =
    let many = along-count (Sends c.args.link) (routes_of c.args.routes.now) c.args.entries.now c.requires in
    let seen = length-map c.args.routes.now (λ (r : NamedRoute). r.route) in omega arith

pub with_entry-requires : goal.with_entry-requires
with_entry-requires c =
    let many = along-count (Sends c.args.link) (routes_of c.args.routes.now) c.args.entries.now c.requires in
    let seen = length-map c.args.routes.now (λ (r : NamedRoute). r.route) in
    let inside : c.loop-i.i < length c.args.routes.now = omega arith in
    let there : c.loop-i.i < length c.args.entries.now = omega arith in
    along_at (Sends c.args.link) (routes_of c.args.routes.now) c.args.entries.now c.loop-i.i c.index-routes-i.result.route c.index-entries-i.result c.requires
    (slice_get-image (λ (r : NamedRoute). r.route) c.args.routes.now c.loop-i.i c.index-routes-i.result
    (slice_get_read c.args.routes.now _ c.loop-i.i c.index-routes-i.result refl inside c.index-routes-i.is))
    (slice_get_read c.args.entries.now _ c.loop-i.i c.index-entries-i.result refl there c.index-entries-i.is)

pub returns-in_err-total-2 : goal.returns-in_err-total-2
returns-in_err-total-2 c =
    let p = err_from_is_err_and c.from_residual-in_err-total-2.result c.from_residual-in_err-total-2.ensures.1 in
    let many = along-count (Sends c.args.link) (routes_of c.args.routes.now) c.args.entries.now c.requires in
    let seen = length-map c.args.routes.now (λ (r : NamedRoute). r.route) in
    let inside : c.loop-i.i < length c.args.routes.now = omega arith in
    let there : c.loop-i.i < length c.args.entries.now = omega arith in
    rw (p.1, p.2) (sums_stop passes_Q c.args.link ((0ℚ, 0ℚ) ∷ []) (routes_of c.args.routes.now) c.args.entries.now c.loop-i.total.points c.loop-i.i
    c.loop-i.invariant c.index-routes-i.result.route c.index-entries-i.result
    (slice_get-image (λ (r : NamedRoute). r.route) c.args.routes.now c.loop-i.i c.index-routes-i.result
    (slice_get_read c.args.routes.now _ c.loop-i.i c.index-routes-i.result refl inside c.index-routes-i.is))
    (slice_get_read c.args.entries.now _ c.loop-i.i c.index-entries-i.result refl there c.index-entries-i.is) c.in_err-total-2.field-0.0 c.in_err-total-2.ensures)

pub loop-i-preserved : goal.loop-i-preserved
loop-i-preserved c =
    let many = along-count (Sends c.args.link) (routes_of c.args.routes.now) c.args.entries.now c.requires in
    let seen = length-map c.args.routes.now (λ (r : NamedRoute). r.route) in
    let inside : c.loop-i.i < length c.args.routes.now = omega arith in
    let there : c.loop-i.i < length c.args.entries.now = omega arith in
    sums_go passes_Q c.args.link ((0ℚ, 0ℚ) ∷ []) (routes_of c.args.routes.now) c.args.entries.now c.loop-i.total.points c.loop-i.i c.loop-i.invariant
    c.index-routes-i.result.route c.index-entries-i.result
    (slice_get-image (λ (r : NamedRoute). r.route) c.args.routes.now c.loop-i.i c.index-routes-i.result
    (slice_get_read c.args.routes.now _ c.loop-i.i c.index-routes-i.result refl inside c.index-routes-i.is))
    (slice_get_read c.args.entries.now _ c.loop-i.i c.index-entries-i.result refl there c.index-entries-i.is) c.in_ok-total-2.total.points c.in_ok-total-2.ensures

pub returns : goal.returns
returns c =
    let count = length-map c.args.routes.now (λ (r : NamedRoute). r.route) in
    let past : length (routes_of c.args.routes.now) ≤ c.loop-i.i = subst (λ (n : ℕ). n ≤ c.loop-i.i) (sym count) c.loop-i-test.false in
    ap (at_part Load) (sym c.loop-i.invariant.same
    ∙ ap (λ (l : List Route). sum_from passes_Q c.args.link c.loop-i.total.points l (drop c.loop-i.i c.args.entries.now)) (drop_all c.loop-i.i (routes_of c.args.routes.now) past))
