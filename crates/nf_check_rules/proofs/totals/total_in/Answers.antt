use Rattle.std.proofs.Common.{◌<◌, ◌≤◌, [], ◌∷◌, length, ap, ◌∙◌, arith}
use Rattle.nf_check_rules.proofs.Common.{err_from_is_err_and, passes_Q, ℚ, 0ℚ, no_amount, with_outflow, loadings_of}
use Rattle.nf_check_def.specs.Curves.{total_in}
use Rattle.nf_check_rules.proofs.Looping.{link_there}
use Rattle.nf_check_rules.proofs.Folding.{fold_first, fold_stops, fold_goes, fold_last}
use Rattle.nf_check_rules.proofs.totals.total_in.Goals as goal

pub loop-number-init : goal.loop-number-init
loop-number-init c =
    fold_first (with_outflow passes_Q (loadings_of c.args.loaded.now) c.args.node) c.args.net.now.net.links no_amount c.in_ok-total.total.points
    (c.in_ok-total.ensures ∙ ap (λ (y : ℚ). (0ℚ, y) ∷ []) c.zero.ensures)

pub returns-in_err-total-2 : goal.returns-in_err-total-2
unfolding total_in
returns-in_err-total-2 c =
    let p = err_from_is_err_and c.from_residual-in_err-total-2.result c.from_residual-in_err-total-2.ensures.1 in
    let inside : c.loop-number.number < length c.args.net.now.net.links = omega arith in
    let there = link_there c.args.net.now.net.links c.loop-number.number inside in
    rw (p.1, p.2) (fold_stops (with_outflow passes_Q (loadings_of c.args.loaded.now) c.args.node) c.args.net.now.net.links no_amount
    c.loop-number.total.points c.loop-number.number c.loop-number.invariant there.link there.is c.in_err-total-2.field-0.0
    (c.in_err-total-2.ensures there.link there.is))

pub loop-number-preserved : goal.loop-number-preserved
loop-number-preserved c =
    let inside : c.loop-number.number < length c.args.net.now.net.links = omega arith in
    let there = link_there c.args.net.now.net.links c.loop-number.number inside in
    fold_goes (with_outflow passes_Q (loadings_of c.args.loaded.now) c.args.node) c.args.net.now.net.links no_amount c.loop-number.total.points
    c.loop-number.number c.loop-number.invariant there.link there.is c.in_ok-total-2.total.points (c.in_ok-total-2.ensures there.link there.is)

pub returns : goal.returns
unfolding total_in
returns c =
    let past : length c.args.net.now.net.links ≤ c.loop-number.number = omega arith in
    fold_last (with_outflow passes_Q (loadings_of c.args.loaded.now) c.args.node) c.args.net.now.net.links no_amount c.loop-number.total.points
    c.loop-number.number c.loop-number.invariant past
