use Rattle.std.proofs.Common.{◌<◌, ◌≤◌, length, get_or, refl, sym, ap, subst, ◌∙◌, arith}
use Rattle.nf_routes_links.proofs.Common.{length-map, slice_get-get_or, slice_get_read, err_from_is_err_and, ℚ, Load, passes_Q, Checked, Stops, at_part}
use Rattle.nf_routes_links.proofs.Common.{slice_get-image, Route, NamedRoute, routes_of, goes_over, next_if, Sends}
use Rattle.nf_routes_links.proofs.Folds.{Sent, next_all-is, along_at, along-count, was, steps_first, steps_stop, steps_go, steps_last}
use Rattle.nf_routes_links.proofs.Knowing.{known_first}
use Rattle.nf_routes_links.proofs.entries.send_all_on.Goals as goal

pub loop-i-init : goal.loop-i-init
loop-i-init c = (
  steps_first (λ (route : Route) (sent : Sent). next_if passes_Q (goes_over route.links c.args.link) c.args.exit.now.points sent) (routes_of c.args.routes.now) c.args.entries.now,
  known_first c.args.exit.now.points c.in_ok-known.known.items c.requires.exits.curve (c.in_ok-known.ensures ∙ c.as_points.ensures.points),
)

pub returns-in_err-known : goal.returns-in_err-known
returns-in_err-known c =
    let p = err_from_is_err_and c.from_residual.result c.from_residual.ensures.1 in
    rw (p.1, p.2) tt

pub send_on-requires-clause-known : goal.send_on-requires-clause-known
send_on-requires-clause-known c = c.loop-i.invariant.1

pub bounds-entries-i : goal.bounds-entries-i
bounds-entries-i c =
    let many = along-count (Sends c.args.link) (routes_of c.args.routes.now) c.args.entries.now c.requires.send in
    let seen = length-map c.args.routes.now (λ (r : NamedRoute). r.route) in
    let kept = c.loop-i.invariant.0.count in omega arith

pub send_on-requires-clause-sends : goal.send_on-requires-clause-sends
send_on-requires-clause-sends c =
    let many = along-count (Sends c.args.link) (routes_of c.args.routes.now) c.args.entries.now c.requires.send in
    let seen = length-map c.args.routes.now (λ (r : NamedRoute). r.route) in
    let kept = c.loop-i.invariant.0.count in
    let inside : c.loop-i.i < length c.args.routes.now = omega arith in
    let there : c.loop-i.i < length c.loop-i.entries = omega arith in
    let at = slice_get-image (λ (r : NamedRoute). r.route) c.args.routes.now c.loop-i.i c.index-routes-i.result
    (slice_get_read c.args.routes.now _ c.loop-i.i c.index-routes-i.result refl inside c.index-routes-i.is) in
    along_at (Sends c.args.link) (routes_of c.args.routes.now) c.args.entries.now c.loop-i.i c.index-routes-i.result.route
    (get_or c.loop-i.entries c.loop-i.i c.index-entries-i.result) c.requires.send at
    (was (λ (route : Route) (sent : Sent). next_if passes_Q (goes_over route.links c.args.link) c.args.exit.now.points sent)
    (routes_of c.args.routes.now) c.args.entries.now c.loop-i.entries c.loop-i.i c.loop-i.invariant.0
    c.index-routes-i.result.route (get_or c.loop-i.entries c.loop-i.i c.index-entries-i.result) at (slice_get-get_or c.loop-i.entries c.loop-i.i c.index-entries-i.result there))

pub returns-in_err-send_on : goal.returns-in_err-send_on
returns-in_err-send_on c =
    let p = err_from_is_err_and c.from_residual-in_err-send_on.result c.from_residual-in_err-send_on.ensures.1 in
    let many = along-count (Sends c.args.link) (routes_of c.args.routes.now) c.args.entries.now c.requires.send in
    let seen = length-map c.args.routes.now (λ (r : NamedRoute). r.route) in
    let kept = c.loop-i.invariant.0.count in
    let inside : c.loop-i.i < length c.args.routes.now = omega arith in
    let there : c.loop-i.i < length c.loop-i.entries = omega arith in
    let at = slice_get-image (λ (r : NamedRoute). r.route) c.args.routes.now c.loop-i.i c.index-routes-i.result
    (slice_get_read c.args.routes.now _ c.loop-i.i c.index-routes-i.result refl inside c.index-routes-i.is) in
    rw (p.1, p.2) (subst (λ (r : Checked _). Stops (λ (q : ℚ). q) c.in_err-send_on.field-0.0 (at_part Load r))
    (sym (next_all-is passes_Q c.args.link c.args.exit.now.points (routes_of c.args.routes.now) c.args.entries.now))
    (steps_stop (λ (route : Route) (sent : Sent). next_if passes_Q (goes_over route.links c.args.link) c.args.exit.now.points sent)
    (routes_of c.args.routes.now) c.args.entries.now c.loop-i.entries c.loop-i.i c.loop-i.invariant.0
    c.index-routes-i.result.route (get_or c.loop-i.entries c.loop-i.i c.index-entries-i.result) at
    (slice_get-get_or c.loop-i.entries c.loop-i.i c.index-entries-i.result there) c.in_err-send_on.field-0.0 c.in_err-send_on.ensures.list))

pub loop-i-preserved : goal.loop-i-preserved
loop-i-preserved c =
    let many = along-count (Sends c.args.link) (routes_of c.args.routes.now) c.args.entries.now c.requires.send in
    let seen = length-map c.args.routes.now (λ (r : NamedRoute). r.route) in
    let kept = c.loop-i.invariant.0.count in
    let inside : c.loop-i.i < length c.args.routes.now = omega arith in
    let there : c.loop-i.i < length c.loop-i.entries = omega arith in (
      steps_go (λ (route : Route) (sent : Sent). next_if passes_Q (goes_over route.links c.args.link) c.args.exit.now.points sent)
          (routes_of c.args.routes.now) c.args.entries.now c.loop-i.entries c.loop-i.i c.loop-i.invariant.0
          c.index-routes-i.result.route (get_or c.loop-i.entries c.loop-i.i c.index-entries-i.result)
          (slice_get-image (λ (r : NamedRoute). r.route) c.args.routes.now c.loop-i.i c.index-routes-i.result
          (slice_get_read c.args.routes.now _ c.loop-i.i c.index-routes-i.result refl inside c.index-routes-i.is))
          (slice_get-get_or c.loop-i.entries c.loop-i.i c.index-entries-i.result there) c.send_on.new.sent c.in_ok-send_on.ensures.list,
      c.send_on.ensures.known,
    )

pub returns : goal.returns
returns c =
    let many = along-count (Sends c.args.link) (routes_of c.args.routes.now) c.args.entries.now c.requires.send in
    let seen = length-map c.args.routes.now (λ (r : NamedRoute). r.route) in
    let past : length (routes_of c.args.routes.now) ≤ c.loop-i.i = omega arith in
    let over : length c.args.entries.now ≤ c.loop-i.i = omega arith in
    ap (at_part Load) (next_all-is passes_Q c.args.link c.args.exit.now.points (routes_of c.args.routes.now) c.args.entries.now)
    ∙ steps_last (λ (route : Route) (sent : Sent). next_if passes_Q (goes_over route.links c.args.link) c.args.exit.now.points sent)
    (routes_of c.args.routes.now) c.args.entries.now c.loop-i.entries c.loop-i.i c.loop-i.invariant.0 past over
