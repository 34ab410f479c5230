use Rattle.std.proofs.Common.{◌≡◌, ◌≤◌, ◌+◌, ℕ, length, refl, sym, ap, subst, ◌∙◌, arith}
use Rattle.nf_routes_links.proofs.Common.{slice_get_read, err_from_is_err_and, passes_Q, entry, loading_order, routes_of, SoFar, seen_so_far}
use Rattle.nf_routes_links.proofs.All.{placed_at, may_load_at, stands_complete, Loads, loads_first, loads_last, loads_stop, loads_go}
use Rattle.nf_routes_links.proofs.loading.load_all.Goals as goal

pub loop-link-init : goal.loop-link-init
loop-link-init c =
    let order : c.deref-link-items.result.now ≡ loading_order (length c.args.net.now.net.links) (routes_of c.args.routes.now) =
    c.deref-link-items.ensures.value ∙ c.in_ok-order.ensures ∙ ap (λ (n : ℕ). loading_order n (routes_of c.args.routes.now)) c.link_count.ensures in
    loads_first passes_Q c.args.kept c.args.net.now.net (routes_of c.args.routes.now) c.args.horizon c.deref-link-items.result.now order c.requires.routes
    (seen_so_far c.in_ok-so_far.so_far) c.in_ok-so_far.ensures.links c.in_ok-so_far.ensures.entries

pub load_here-requires-clause-link : goal.load_here-requires-clause-link
load_here-requires-clause-link c =
    let order : c.deref-link-items.result.now ≡ loading_order (length c.args.net.now.net.links) (routes_of c.args.routes.now) =
    c.deref-link-items.ensures.value ∙ c.in_ok-order.ensures ∙ ap (λ (n : ℕ). loading_order n (routes_of c.args.routes.now)) c.link_count.ensures in
    let at = slice_get_read c.deref-link-items.result.now _ c.loop-link.link-index c.link-item.result refl c.loop-link-test.true c.link-item.is in
    (placed_at c.args.net.now.net (routes_of c.args.routes.now) c.deref-link-items.result.now order c.loop-link.link-index c.link-item.result at).below

pub load_here-requires-clause-may : goal.load_here-requires-clause-may
load_here-requires-clause-may c =
    let order : c.deref-link-items.result.now ≡ loading_order (length c.args.net.now.net.links) (routes_of c.args.routes.now) =
    c.deref-link-items.ensures.value ∙ c.in_ok-order.ensures ∙ ap (λ (n : ℕ). loading_order n (routes_of c.args.routes.now)) c.link_count.ensures in
    let at = slice_get_read c.deref-link-items.result.now _ c.loop-link.link-index c.link-item.result refl c.loop-link-test.true c.link-item.is in
    may_load_at c.args.net.now.net (routes_of c.args.routes.now) c.deref-link-items.result.now order c.loop-link.link-index c.link-item.result at
    (seen_so_far c.loop-link.so_far) c.loop-link.invariant.stands

pub returns-in_err-load_here-clause-list : goal.returns-in_err-load_here-clause-list
returns-in_err-load_here-clause-list c =
    let p = err_from_is_err_and c.from_residual-in_err-load_here.result c.from_residual-in_err-load_here.ensures.1 in
    let order : c.deref-link-items.result.now ≡ loading_order (length c.args.net.now.net.links) (routes_of c.args.routes.now) =
    c.deref-link-items.ensures.value ∙ c.in_ok-order.ensures ∙ ap (λ (n : ℕ). loading_order n (routes_of c.args.routes.now)) c.link_count.ensures in
    let at = slice_get_read c.deref-link-items.result.now _ c.loop-link.link-index c.link-item.result refl c.loop-link-test.true c.link-item.is in
    rw (p.1, p.2) (loads_stop passes_Q c.args.kept c.args.net.now.net (routes_of c.args.routes.now) c.args.horizon c.deref-link-items.result.now order
    (seen_so_far c.loop-link.so_far) c.loop-link.link-index c.loop-link.invariant c.link-item.result at c.in_err-load_here.field-0.0
    c.in_err-load_here.ensures)

pub loop-link-preserved : goal.loop-link-preserved
loop-link-preserved c =
    let order : c.deref-link-items.result.now ≡ loading_order (length c.args.net.now.net.links) (routes_of c.args.routes.now) =
    c.deref-link-items.ensures.value ∙ c.in_ok-order.ensures ∙ ap (λ (n : ℕ). loading_order n (routes_of c.args.routes.now)) c.link_count.ensures in
    let at = slice_get_read c.deref-link-items.result.now _ c.loop-link.link-index c.link-item.result refl c.loop-link-test.true c.link-item.is in
    let one = entry c.args.net.now.net.links c.link-item.result (placed_at c.args.net.now.net
    (routes_of c.args.routes.now) c.deref-link-items.result.now order c.loop-link.link-index c.link-item.result at).below in
    subst (λ (s : SoFar). Loads passes_Q c.args.kept c.args.net.now.net (routes_of c.args.routes.now) c.args.horizon c.deref-link-items.result.now s
    (c.loop-link.link-index + 1)) (sym c.in_ok-keep.ensures)
    (loads_go passes_Q c.args.kept c.args.net.now.net (routes_of c.args.routes.now) c.args.horizon c.deref-link-items.result.now order
    (seen_so_far c.loop-link.so_far) c.loop-link.link-index c.loop-link.invariant c.link-item.result at one.0
    (seen_so_far c.load_here.new.so_far) one.1 c.requires.horizon c.recall.ensures.network c.in_ok-load_here.ensures)

pub returns-clause-complete : goal.returns-clause-complete
returns-clause-complete c =
    let order : c.deref-link-items.result.now ≡ loading_order (length c.args.net.now.net.links) (routes_of c.args.routes.now) =
    c.deref-link-items.ensures.value ∙ c.in_ok-order.ensures ∙ ap (λ (n : ℕ). loading_order n (routes_of c.args.routes.now)) c.link_count.ensures in
    let past : length c.deref-link-items.result.now ≤ c.loop-link.link-index = omega arith in
    stands_complete c.args.net.now.net (routes_of c.args.routes.now) c.deref-link-items.result.now order c.requires.routes
    (seen_so_far c.loop-link.so_far) c.loop-link.link-index c.loop-link.invariant.stands past c.recall.ensures.network c.requires.straight

pub load_here-requires-clause-horizon : goal.load_here-requires-clause-horizon
load_here-requires-clause-horizon c = c.requires.horizon

pub returns-in_err-order-clause-list : goal.returns-in_err-order-clause-list
returns-in_err-order-clause-list c =
    let p = err_from_is_err_and c.from_residual.result c.from_residual.ensures.1 in
    rw (p.1, p.2) tt

pub returns-in_err-order-clause-complete : goal.returns-in_err-order-clause-complete
returns-in_err-order-clause-complete c =
    let p = err_from_is_err_and c.from_residual.result c.from_residual.ensures.1 in
    rw p.1 tt

pub returns-in_err-so_far-clause-list : goal.returns-in_err-so_far-clause-list
returns-in_err-so_far-clause-list c =
    let p = err_from_is_err_and c.from_residual-in_err-so_far.result c.from_residual-in_err-so_far.ensures.1 in
    rw (p.1, p.2) tt

pub returns-in_err-so_far-clause-complete : goal.returns-in_err-so_far-clause-complete
returns-in_err-so_far-clause-complete c =
    let p = err_from_is_err_and c.from_residual-in_err-so_far.result c.from_residual-in_err-so_far.ensures.1 in
    rw p.1 tt

pub returns-in_err-load_here-clause-complete : goal.returns-in_err-load_here-clause-complete
returns-in_err-load_here-clause-complete c =
    let p = err_from_is_err_and c.from_residual-in_err-load_here.result c.from_residual-in_err-load_here.ensures.1 in
    rw p.1 tt

pub returns-clause-list : goal.returns-clause-list
returns-clause-list c =
    let order : c.deref-link-items.result.now ≡ loading_order (length c.args.net.now.net.links) (routes_of c.args.routes.now) =
    c.deref-link-items.ensures.value ∙ c.in_ok-order.ensures ∙ ap (λ (n : ℕ). loading_order n (routes_of c.args.routes.now)) c.link_count.ensures in
    loads_last passes_Q c.args.kept c.args.net.now.net (routes_of c.args.routes.now) c.args.horizon c.deref-link-items.result.now order
    (seen_so_far c.loop-link.so_far) c.loop-link.link-index c.loop-link.invariant c.loop-link-test.false

pub returns-in_err-keep-clause-list : goal.returns-in_err-keep-clause-list
returns-in_err-keep-clause-list c =
    let p = err_from_is_err_and c.from_residual-in_err-keep.result c.from_residual-in_err-keep.ensures.1 in
    rw (p.1, p.2) tt

pub returns-in_err-keep-clause-complete : goal.returns-in_err-keep-clause-complete
returns-in_err-keep-clause-complete c =
    let p = err_from_is_err_and c.from_residual-in_err-keep.result c.from_residual-in_err-keep.ensures.1 in
    rw p.1 tt
