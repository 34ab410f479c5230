use Rattle.std.proofs.Common.{◌≡◌, ◌<◌, ◌≤◌, length, refl, arith}
use Rattle.nf_routes_links.proofs.Common.{nat_tests, slice_get_read}
use Rattle.nf_routes_links.proofs.Repeating.{links_step, links_end}
use Rattle.nf_routes_links.proofs.composing.has_same_links.Goals as goal

pub loop-i-init : goal.loop-i-init
loop-i-init c = λ e. e

pub loop-i-preserved : goal.loop-i-preserved
loop-i-preserved c =
    let inside : c.loop-i.i < length c.args.left.now = omega arith in
    let there : c.loop-i.i < length c.args.right.now = omega arith in
    let same : c.index-left-i.result ≡ c.index-right-i.result = (let e = c.ne.ensures in let f = c.if-ne.false in grind (arith, nat_tests)) in
    links_step c.args.left.now c.args.right.now c.loop-i.i c.index-left-i.result c.index-right-i.result
    (slice_get_read c.args.left.now _ c.loop-i.i c.index-left-i.result refl inside c.index-left-i.is)
    (slice_get_read c.args.right.now _ c.loop-i.i c.index-right-i.result refl there c.index-right-i.is)
    same c.loop-i.invariant

pub returns : goal.returns
returns c = λ yes.
    let past : length c.args.left.now ≤ c.loop-i.i = omega arith in
    let over : length c.args.right.now ≤ c.loop-i.i = omega arith in
    links_end c.args.left.now c.args.right.now c.loop-i.i past over c.loop-i.invariant
