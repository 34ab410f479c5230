use Rattle.std.proofs.Common.{sym, ◌∙◌, arith}
use Rattle.nf_routes_read.proofs.Common.{all_pairs, routes_of}
use Rattle.nf_routes_read.proofs.Taking.{free-on}
use Rattle.nf_routes_read.proofs.order.next_free.Goals as goal

pub loop-number-preserved : goal.loop-number-preserved
loop-number-preserved c =
    free-on (all_pairs (routes_of c.args.routes.now)) c.args.taken.now _ c.loop-number.number c.args.link_count c.loop-number.invariant (omega arith)
    (sym c.is_free.ensures ∙ c.if-is_free.false)
