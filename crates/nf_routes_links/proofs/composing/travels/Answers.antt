use Rattle.std.proofs.Common.{◌≡◌, ◌≤◌, ℕ, List, [], ◌∷◌, length, map, sym, ap, subst, ◌∙◌, arith}
use Rattle.nf_routes_links.proofs.Common.{length-map, map-append, err_from_is_err_and, Load, passes_Q, at_part, departures, Grown, loaded_of, entry}
use Rattle.nf_routes_links.proofs.Common.{links_at, travel_along, AreTravels}
use Rattle.nf_routes_links.proofs.Repeating.{AllTravels, travels_none, travels_stopped, travels_next, travels_all}
use Rattle.nf_routes_links.proofs.composing.travels.Goals as goal

pub loop-init : goal.loop-init
loop-init c = subst (λ (l : List Grown). AllTravels c.args.horizon (map loaded_of c.args.links.now) c.args.routes.now (map (λ (g : Grown). g.points) l) 0)
    (sym c.new-travels.ensures.items) (travels_none c.args.horizon (map loaded_of c.args.links.now) c.args.routes.now)

pub next_travel-requires-clause-left : goal.next_travel-requires-clause-left
next_travel-requires-clause-left c =
    let seen : length c.deref.result.now ≡ length c.loop.travels.items = ap (λ (l : List Grown). length l) c.deref.ensures.value in
    let count : length (map (λ (g : Grown). g.points) c.loop.travels.items) ≡ c.loop.counter = c.loop.invariant.count in
    let mapped = length-map c.loop.travels.items (λ (g : Grown). g.points) in
    omega arith

pub next_travel-requires-clause-travels : goal.next_travel-requires-clause-travels
next_travel-requires-clause-travels c =
    subst (λ (l : List Grown). AreTravels c.args.horizon (map loaded_of c.args.links.now) c.args.routes.now (map (λ (g : Grown). g.points) l))
    (sym c.deref.ensures.value) c.loop.invariant.are

pub returns-in_err-one : goal.returns-in_err-one
returns-in_err-one c =
    let p = err_from_is_err_and c.from_residual.result c.from_residual.ensures.1 in
    let here : length c.deref.result.now ≡ c.loop.counter = ap (λ (l : List Grown). length l) c.deref.ensures.value
    ∙ sym (length-map c.loop.travels.items (λ (g : Grown). g.points)) ∙ c.loop.invariant.count in
    let one = entry c.args.routes.now c.loop.counter (let t = c.loop-test.true in omega arith) in
    rw (p.1, p.2) (travels_stopped c.args.horizon (map loaded_of c.args.links.now) c.args.routes.now
    (map (λ (g : Grown). g.points) c.loop.travels.items) c.loop.counter c.loop.invariant one.0 one.1
    c.in_err-one.field-0.0 (length c.deref.result.now) here c.in_err-one.ensures)

pub loop-preserved : goal.loop-preserved
loop-preserved c =
    let here : length c.deref.result.now ≡ c.loop.counter = ap (λ (l : List Grown). length l) c.deref.ensures.value
    ∙ sym (length-map c.loop.travels.items (λ (g : Grown). g.points)) ∙ c.loop.invariant.count in
    let one = entry c.args.routes.now c.loop.counter (let t = c.loop-test.true in omega arith) in
    travels_next c.args.horizon (map loaded_of c.args.links.now) c.args.routes.now (map (λ (g : Grown). g.points) c.loop.travels.items) c.loop.counter c.loop.invariant one.0 one.1
    c.in_ok-one.one.points (ap (λ (n : ℕ). at_part Load (travel_along passes_Q c.args.horizon (map loaded_of c.args.links.now)
    (links_at c.args.routes.now n) (departures c.args.horizon))) (sym here) ∙ c.in_ok-one.ensures)
    (map (λ (g : Grown). g.points) c.push.new.self.items)
    (ap (λ (l : List Grown). map (λ (g : Grown). g.points) l) c.in_ok-push.ensures.items ∙ map-append (λ (g : Grown). g.points) c.loop.travels.items (c.in_ok-one.one ∷ []))

pub returns : goal.returns
returns c =
    let past : length c.args.routes.now ≤ c.loop.counter = (let t = c.loop-test.false in omega arith) in
    travels_all c.args.horizon (map loaded_of c.args.links.now) c.args.routes.now (map (λ (g : Grown). g.points) c.loop.travels.items) c.loop.counter c.loop.invariant past
