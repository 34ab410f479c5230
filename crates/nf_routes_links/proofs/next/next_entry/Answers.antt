use Rattle.std.proofs.Common.{◌≡◌, List, ◌∷◌, map, sym, ap, subst, ◌∙◌, Ok}
use Rattle.nf_routes_links.proofs.Common.{err_from_is_err_and, ℚ, 0ℚ, Load, passes_Q, Stops, at_part, each, Point, IsCurve, checked_short, both_times}
use Rattle.nf_routes_links.proofs.Common.{sides_at, sides_of, was_ok, stops_on, next_from, next_entry, IsAmountCurve, AreKnown, right_point, Sides}
use Rattle.nf_routes_laws.specs.Laws.{IsSentOn}
use Rattle.nf_routes_laws.proofs.Next.{next_entry-is}
use Rattle.nf_routes_links.proofs.Knowing.{known_next}
use Rattle.nf_routes_links.proofs.Sharing.{points_curve, next_amount, sides_stop, sides_go, gives_ok}
use Rattle.nf_routes_links.proofs.next.next_entry.Goals as goal

pub returns-in_err-sides-clause-list : goal.returns-in_err-sides-clause-list
returns-in_err-sides-clause-list c =
    let p = err_from_is_err_and c.from_residual.result c.from_residual.ensures.1 in
    let entered : c.as_points.result.now ≡ c.args.entry.now.points = c.as_points.ensures.points in
    let exits : c.as_points-2.result.now ≡ c.args.exit.now.points = c.as_points-2.ensures.points in
    rw (p.1, p.2) (stops_on c.in_err-sides.field-0.0 (at_part Load (each (sides_at passes_Q c.args.entry.now.points c.args.exit.now.points)
    (both_times c.args.entry.now.points c.args.exit.now.points)))
    (at_part Load (next_entry passes_Q c.args.exit.now.points c.args.entry.now.points))
    (sides_stop passes_Q c.args.exit.now.points c.args.entry.now.points c.requires.exits c.requires.amount)
    (subst (λ (l : List Point). Stops (λ (q : ℚ). q) c.in_err-sides.field-0.0
    (at_part Load (each (sides_at passes_Q l c.args.exit.now.points) (both_times l c.args.exit.now.points)))) entered
    (subst (λ (l : List Point). Stops (λ (q : ℚ). q) c.in_err-sides.field-0.0
    (at_part Load (each (sides_at passes_Q c.as_points.result.now l) (both_times c.as_points.result.now l)))) exits c.in_err-sides.ensures)))

pub of_points-curve-requires : goal.of_points-curve-requires
of_points-curve-requires c =
    let entered : c.as_points.result.now ≡ c.args.entry.now.points = c.as_points.ensures.points in
    let exits : c.as_points-2.result.now ≡ c.args.exit.now.points = c.as_points-2.ensures.points in
    let sides : at_part Load (each (sides_at passes_Q c.args.entry.now.points c.args.exit.now.points)
    (both_times c.args.entry.now.points c.args.exit.now.points)) ≡ Ok (map sides_of c.in_ok-sides.sides.items) =
    ap (λ (l : List Point). at_part Load (each (sides_at passes_Q l c.args.exit.now.points) (both_times l c.args.exit.now.points))) (sym entered)
    ∙ ap (λ (l : List Point). at_part Load (each (sides_at passes_Q c.as_points.result.now l) (both_times c.as_points.result.now l))) (sym exits) ∙ c.in_ok-sides.ensures in
    let points : c.in_ok-points.points.items ≡ (0ℚ, 0ℚ) ∷ next_from 0ℚ (map sides_of c.in_ok-sides.sides.items) =
    c.in_ok-points.ensures ∙ ap (λ (l : List Sides). (0ℚ, 0ℚ) ∷ next_from 0ℚ (map sides_of l)) c.deref-2.ensures.value in
    subst (λ (l : List Point). IsCurve l) (sym points)
    (points_curve passes_Q c.args.exit.now.points c.args.entry.now.points c.requires.exits c.requires.amount (map sides_of c.in_ok-sides.sides.items)
    (was_ok Load (each (sides_at passes_Q c.args.entry.now.points c.args.exit.now.points) (both_times c.args.entry.now.points c.args.exit.now.points))
    (map sides_of c.in_ok-sides.sides.items) sides))

pub returns-clause-list : goal.returns-clause-list
returns-clause-list c =
    let entered : c.as_points.result.now ≡ c.args.entry.now.points = c.as_points.ensures.points in
    let exits : c.as_points-2.result.now ≡ c.args.exit.now.points = c.as_points-2.ensures.points in
    let sides : at_part Load (each (sides_at passes_Q c.args.entry.now.points c.args.exit.now.points)
    (both_times c.args.entry.now.points c.args.exit.now.points)) ≡ Ok (map sides_of c.in_ok-sides.sides.items) =
    ap (λ (l : List Point). at_part Load (each (sides_at passes_Q l c.args.exit.now.points) (both_times l c.args.exit.now.points))) (sym entered)
    ∙ ap (λ (l : List Point). at_part Load (each (sides_at passes_Q c.as_points.result.now l) (both_times c.as_points.result.now l))) (sym exits) ∙ c.in_ok-sides.ensures in
    let curve : c.of_points-curve.result.points ≡ (0ℚ, 0ℚ) ∷ next_from 0ℚ (map sides_of c.in_ok-sides.sides.items) =
    c.of_points-curve.ensures ∙ c.in_ok-points.ensures ∙ ap (λ (l : List Sides). (0ℚ, 0ℚ) ∷ next_from 0ℚ (map sides_of l)) c.deref-2.ensures.value in
    let whole : at_part Load (next_entry passes_Q c.args.exit.now.points c.args.entry.now.points) ≡ at_part Load (checked_short passes_Q c.of_points-curve.result.points) =
    sides_go passes_Q c.args.exit.now.points c.args.entry.now.points c.requires.exits c.requires.amount (map sides_of c.in_ok-sides.sides.items) sides
    ∙ ap (λ (l : List Point). at_part Load (checked_short passes_Q l)) (sym curve) in
    rw whole c.short.ensures.list

pub returns-clause-amount : goal.returns-clause-amount
returns-clause-amount c =
    gives_ok (λ c'. c'.points) c.short.result (next_entry passes_Q c.args.exit.now.points c.args.entry.now.points) (λ (l : List Point). IsAmountCurve l) (returns-clause-list c)
    (next_amount passes_Q c.args.exit.now.points c.args.entry.now.points c.requires.exits c.requires.amount)

pub returns-clause-next : goal.returns-clause-next
returns-clause-next c = λ last can.
    gives_ok (λ c'. c'.points) c.short.result (next_entry passes_Q c.args.exit.now.points c.args.entry.now.points)
    (λ (l : List Point). IsSentOn c.args.exit.now.points c.args.entry.now.points last l) (returns-clause-list c)
    (next_entry-is passes_Q c.args.exit.now.points c.args.entry.now.points last can)

pub all_sides-requires-clause-known : goal.all_sides-requires-clause-known
all_sides-requires-clause-known c = subst (λ (l : List Point). AreKnown l c.as_slice.result.now) (sym c.as_points-2.ensures.points)
    (subst (λ (l : List Point). AreKnown c.args.exit.now.points l) (sym c.as_slice.ensures.value) c.requires.known)

pub returns-in_err-keep_exits-clause-list : goal.returns-in_err-keep_exits-clause-list
returns-in_err-keep_exits-clause-list c =
    let p = err_from_is_err_and c.from_residual-in_err-keep_exits.result c.from_residual-in_err-keep_exits.ensures.1 in
    rw (p.1, p.2) tt

pub returns-clause-known : goal.returns-clause-known
returns-clause-known c =
    let entered : c.as_points.result.now ≡ c.args.entry.now.points = c.as_points.ensures.points in
    let exits : c.as_points-2.result.now ≡ c.args.exit.now.points = c.as_points-2.ensures.points in
    let sides : at_part Load (each (sides_at passes_Q c.args.entry.now.points c.args.exit.now.points)
    (both_times c.args.entry.now.points c.args.exit.now.points)) ≡ Ok (map sides_of c.in_ok-sides.sides.items) =
    ap (λ (l : List Point). at_part Load (each (sides_at passes_Q l c.args.exit.now.points) (both_times l c.args.exit.now.points))) (sym entered)
    ∙ ap (λ (l : List Point). at_part Load (each (sides_at passes_Q c.as_points.result.now l) (both_times c.as_points.result.now l))) (sym exits) ∙ c.in_ok-sides.ensures in
    c.keep_exits.ensures c.args.exit.now.points
    (subst (λ (l : List Sides). AreKnown c.args.exit.now.points (map right_point (map sides_of l))) (sym c.deref.ensures.value)
    (known_next c.args.entry.now.points c.args.exit.now.points (map sides_of c.in_ok-sides.sides.items)
    (was_ok Load (each (sides_at passes_Q c.args.entry.now.points c.args.exit.now.points) (both_times c.args.entry.now.points c.args.exit.now.points))
    (map sides_of c.in_ok-sides.sides.items) sides)))
    c.requires.known

pub returns-in_err-keep_exits-clause-known : goal.returns-in_err-keep_exits-clause-known
returns-in_err-keep_exits-clause-known c =
    let entered : c.as_points.result.now ≡ c.args.entry.now.points = c.as_points.ensures.points in
    let exits : c.as_points-2.result.now ≡ c.args.exit.now.points = c.as_points-2.ensures.points in
    let sides : at_part Load (each (sides_at passes_Q c.args.entry.now.points c.args.exit.now.points)
    (both_times c.args.entry.now.points c.args.exit.now.points)) ≡ Ok (map sides_of c.in_ok-sides.sides.items) =
    ap (λ (l : List Point). at_part Load (each (sides_at passes_Q l c.args.exit.now.points) (both_times l c.args.exit.now.points))) (sym entered)
    ∙ ap (λ (l : List Point). at_part Load (each (sides_at passes_Q c.as_points.result.now l) (both_times c.as_points.result.now l))) (sym exits) ∙ c.in_ok-sides.ensures in
    c.keep_exits.ensures c.args.exit.now.points
    (subst (λ (l : List Sides). AreKnown c.args.exit.now.points (map right_point (map sides_of l))) (sym c.deref.ensures.value)
    (known_next c.args.entry.now.points c.args.exit.now.points (map sides_of c.in_ok-sides.sides.items)
    (was_ok Load (each (sides_at passes_Q c.args.entry.now.points c.args.exit.now.points) (both_times c.args.entry.now.points c.args.exit.now.points))
    (map sides_of c.in_ok-sides.sides.items) sides)))
    c.requires.known

pub returns-in_err-points-clause-known : goal.returns-in_err-points-clause-known
returns-in_err-points-clause-known c =
    let entered : c.as_points.result.now ≡ c.args.entry.now.points = c.as_points.ensures.points in
    let exits : c.as_points-2.result.now ≡ c.args.exit.now.points = c.as_points-2.ensures.points in
    let sides : at_part Load (each (sides_at passes_Q c.args.entry.now.points c.args.exit.now.points)
    (both_times c.args.entry.now.points c.args.exit.now.points)) ≡ Ok (map sides_of c.in_ok-sides.sides.items) =
    ap (λ (l : List Point). at_part Load (each (sides_at passes_Q l c.args.exit.now.points) (both_times l c.args.exit.now.points))) (sym entered)
    ∙ ap (λ (l : List Point). at_part Load (each (sides_at passes_Q c.as_points.result.now l) (both_times c.as_points.result.now l))) (sym exits) ∙ c.in_ok-sides.ensures in
    c.keep_exits.ensures c.args.exit.now.points
    (subst (λ (l : List Sides). AreKnown c.args.exit.now.points (map right_point (map sides_of l))) (sym c.deref.ensures.value)
    (known_next c.args.entry.now.points c.args.exit.now.points (map sides_of c.in_ok-sides.sides.items)
    (was_ok Load (each (sides_at passes_Q c.args.entry.now.points c.args.exit.now.points) (both_times c.args.entry.now.points c.args.exit.now.points))
    (map sides_of c.in_ok-sides.sides.items) sides)))
    c.requires.known
