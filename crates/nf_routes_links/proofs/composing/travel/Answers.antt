use Rattle.std.proofs.Common.{◌≡◌, ◌<◌, ◌≤◌, ℕ, List, length, get_or, map, refl, sym, ap, subst, ◌∙◌, rules, arith, Some, Result, slice_get}
use Rattle.nf_routes_links.proofs.Common.{length-map, slice_get-get_or, slice_get_read, err_from_is_err_and, ℚ, Load, PassedAt, passes_Q, at_part, Gives}
use Rattle.nf_routes_links.proofs.Common.{Point, Grown, slice_get-image, loaded_of}
use Rattle.nf_routes_links.proofs.Travelling.{travels_first, travels_last, travels_stop, travels_go}
use Rattle.nf_routes_links.proofs.composing.travel.Goals as goal

pub loop-link-init : goal.loop-link-init
loop-link-init c =
    travels_first passes_Q c.args.horizon (map loaded_of c.args.links.now) c.args.route.now.route.links c.in_ok-travel.travel.points c.requires.horizon c.in_ok-travel.ensures

pub offset_bounds-links-index : goal.offset_bounds-links-index
offset_bounds-links-index c =
    let at : slice_get c.args.route.now.route.links c.loop-link.link-index ≡ Some c.index.result =
    ap (λ (l : List ℕ). slice_get l c.loop-link.link-index) (sym c.links-link-items.ensures)
    ∙ slice_get_read c.links-link-items.result.now _ c.loop-link.link-index c.link-item.result refl c.loop-link-test.true c.link-item.is
    ∙ ap (λ (n : ℕ). Some n) (sym c.index.ensures) in
    let count = length-map c.args.links.now loaded_of in
    let over = c.requires.over.each c.loop-link.link-index c.index.result at in
    let inside : c.index.result < length c.args.links.now = omega arith in
    search rules

pub bounds-links-index : goal.bounds-links-index
bounds-links-index c =
    let at : slice_get c.args.route.now.route.links c.loop-link.link-index ≡ Some c.index.result =
    ap (λ (l : List ℕ). slice_get l c.loop-link.link-index) (sym c.links-link-items.ensures)
    ∙ slice_get_read c.links-link-items.result.now _ c.loop-link.link-index c.link-item.result refl c.loop-link-test.true c.link-item.is
    ∙ ap (λ (n : ℕ). Some n) (sym c.index.ensures) in
    let count = length-map c.args.links.now loaded_of in
    let over = c.requires.over.each c.loop-link.link-index c.index.result at in
    let inside : c.index.result < length c.args.links.now = omega arith in
    inside

pub returns-in_err-travel-2 : goal.returns-in_err-travel-2
returns-in_err-travel-2 c =
    let p = err_from_is_err_and c.from_residual-in_err-travel-2.result c.from_residual-in_err-travel-2.ensures.1 in
    let at : slice_get c.args.route.now.route.links c.loop-link.link-index ≡ Some c.index.result =
    ap (λ (l : List ℕ). slice_get l c.loop-link.link-index) (sym c.links-link-items.ensures)
    ∙ slice_get_read c.links-link-items.result.now _ c.loop-link.link-index c.link-item.result refl c.loop-link-test.true c.link-item.is
    ∙ ap (λ (n : ℕ). Some n) (sym c.index.ensures) in
    let count = length-map c.args.links.now loaded_of in
    let over = c.requires.over.each c.loop-link.link-index c.index.result at in
    let inside : c.index.result < length c.args.links.now = omega arith in
    let is = slice_get-image loaded_of c.args.links.now c.index.result (get_or c.args.links.now c.index.result c.index-links-index.result)
    (slice_get-get_or c.args.links.now c.index.result c.index-links-index.result inside) in
    rw (p.1, p.2) (travels_stop passes_Q c.args.horizon (map loaded_of c.args.links.now) c.args.route.now.route.links c.loop-link.travel.points
    c.loop-link.link-index c.loop-link.invariant c.index.result (loaded_of (get_or c.args.links.now c.index.result c.index-links-index.result)) at is
    c.in_err-travel-2.field-0.0 c.in_err-travel-2.ensures.list)

pub loop-link-preserved : goal.loop-link-preserved
loop-link-preserved c =
    let at : slice_get c.args.route.now.route.links c.loop-link.link-index ≡ Some c.index.result =
    ap (λ (l : List ℕ). slice_get l c.loop-link.link-index) (sym c.links-link-items.ensures)
    ∙ slice_get_read c.links-link-items.result.now _ c.loop-link.link-index c.link-item.result refl c.loop-link-test.true c.link-item.is
    ∙ ap (λ (n : ℕ). Some n) (sym c.index.ensures) in
    let count = length-map c.args.links.now loaded_of in
    let over = c.requires.over.each c.loop-link.link-index c.index.result at in
    let inside : c.index.result < length c.args.links.now = omega arith in
    let is = slice_get-image loaded_of c.args.links.now c.index.result (get_or c.args.links.now c.index.result c.index-links-index.result)
    (slice_get-get_or c.args.links.now c.index.result c.index-links-index.result inside) in
    travels_go passes_Q c.args.horizon (map loaded_of c.args.links.now) c.args.route.now.route.links c.loop-link.travel.points c.loop-link.link-index
    c.loop-link.invariant c.index.result (loaded_of (get_or c.args.links.now c.index.result c.index-links-index.result)) at is
    c.in_ok-travel-2.travel.points (c.requires.exits.each c.index.result
    (loaded_of (get_or c.args.links.now c.index.result c.index-links-index.result)) is) c.in_ok-travel-2.ensures.list c.in_ok-travel-2.ensures.composed

pub returns : goal.returns
returns c =
    let past = subst (λ (l : List ℕ). length l ≤ c.loop-link.link-index) c.links-link-items.ensures c.loop-link-test.false in
    subst (λ (r : Result (List Point) (PassedAt ℚ)). Gives (λ (g : Grown). g.points) (λ (q : ℚ). q) c.short.result r)
    (ap (at_part Load) (travels_last passes_Q c.args.horizon (map loaded_of c.args.links.now) c.args.route.now.route.links c.loop-link.travel.points
    c.loop-link.link-index c.loop-link.invariant past)) c.short.ensures.list
