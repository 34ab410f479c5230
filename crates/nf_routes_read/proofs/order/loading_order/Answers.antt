use Rattle.std.proofs.Common.{List, ℕ, ◌+◌, [], sym, ap, subst, ◌∙◌, arith}
use Rattle.nf_routes_read.proofs.Common.{range_with_len, all_pairs, first_free, order_from, routes_of}
use Rattle.nf_routes_def.specs.Routes.{loading_order}
use Rattle.nf_routes_read.proofs.Taking.{Ordered, order_ends, order_goes, order_last}
use Rattle.nf_routes_read.proofs.order.loading_order.Goals as goal

pub returns-in_default : goal.returns-in_default
unfolding loading_order
returns-in_default c =
    order_ends (all_pairs (routes_of c.args.routes.now)) c.args.link_count _ c.loop.order.items c.loop.counter c.loop.invariant (omega arith)
    (ap (λ (l : List ℕ). first_free (all_pairs (routes_of c.args.routes.now)) l (range_with_len 0 c.args.link_count)) (sym c.deref.ensures.value)
    ∙ sym c.next_free.ensures ∙ c.in_default.is)

pub loop-preserved : goal.loop-preserved
loop-preserved c =
    subst (λ (l : List ℕ). Ordered (all_pairs (routes_of c.args.routes.now)) c.args.link_count
    (order_from c.args.link_count (all_pairs (routes_of c.args.routes.now)) c.args.link_count []) l (c.loop.counter + 1))
    (sym c.in_ok-push.ensures.items)
    (order_goes (all_pairs (routes_of c.args.routes.now)) c.args.link_count _ c.loop.order.items c.loop.counter c.loop.invariant c.in-Some.link (omega arith)
    (ap (λ (l : List ℕ). first_free (all_pairs (routes_of c.args.routes.now)) l (range_with_len 0 c.args.link_count)) (sym c.deref.ensures.value)
    ∙ sym c.next_free.ensures ∙ c.in-Some.is))

pub returns : goal.returns
unfolding loading_order
returns c = order_last (all_pairs (routes_of c.args.routes.now)) c.args.link_count _ c.loop.order.items c.loop.counter c.loop.invariant (omega arith)
