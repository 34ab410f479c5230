use Rattle.std.proofs.Common.{◌<◌, ◌≤◌, length, arith}
use Rattle.nf_check_rules.proofs.Common.{err_from_is_err_and, route, in_view}
use Rattle.nf_check_rules.proofs.Looping.{links_first, links_end, links_go, links_done, link_there}
use Rattle.nf_check_rules.proofs.Keeping.{known_kept, take_kept}
use Rattle.nf_check_rules.proofs.routes.check_routes.Goals as goal

pub loop-number-init : goal.loop-number-init
loop-number-init c = record {
  left = links_first (in_view route c.args.worked.now) c.args.worked.now.net.now.net.links;
  kept = c.requires;
}

pub check_route-requires-clause-kept : goal.check_route-requires-clause-kept
check_route-requires-clause-kept c = record {
  known =
      λ here is. known_kept c.args.worked.now c.loop-number.exits c.take-kept.new.self c.loop-number.invariant.kept c.loop-number.number here is
      c.take-kept.result c.take-kept.ensures.taken;
}

pub returns-in_err-check_route-clause-tries : goal.returns-in_err-check_route-clause-tries
returns-in_err-check_route-clause-tries c =
    let p = err_from_is_err_and c.from_residual.result c.from_residual.ensures.1 in
    let inside : c.loop-number.number < length c.args.worked.now.net.now.net.links = omega arith in
    let there = link_there c.args.worked.now.net.now.net.links c.loop-number.number inside in
    rw (p.1, p.2) (links_end (in_view route c.args.worked.now) c.args.worked.now.net.now.net.links c.loop-number.number c.loop-number.invariant.left
    there.link there.is c.in_err-check_route.field-0.0 (c.in_err-check_route.ensures there.link there.is))

pub loop-number-preserved : goal.loop-number-preserved
loop-number-preserved c =
    let inside : c.loop-number.number < length c.args.worked.now.net.now.net.links = omega arith in
    let there = link_there c.args.worked.now.net.now.net.links c.loop-number.number inside in
    record {
      left = links_go (in_view route c.args.worked.now) c.args.worked.now.net.now.net.links c.loop-number.number c.loop-number.invariant.left there.link
          there.is tt (c.in_ok-check_route.ensures there.link there.is);
      kept = take_kept c.args.worked.now c.loop-number.exits c.take-kept.new.self c.loop-number.invariant.kept c.loop-number.number c.take-kept.ensures.gone;
    }

pub returns-clause-tries : goal.returns-clause-tries
returns-clause-tries c =
    let past : length c.args.worked.now.net.now.net.links ≤ c.loop-number.number = omega arith in
    links_done (in_view route c.args.worked.now) c.args.worked.now.net.now.net.links c.loop-number.number c.loop-number.invariant.left past

-- ---- what is left
pub returns-in_err-check_route-clause-kept : goal.returns-in_err-check_route-clause-kept
returns-in_err-check_route-clause-kept c =
    take_kept c.args.worked.now c.loop-number.exits c.take-kept.new.self c.loop-number.invariant.kept c.loop-number.number c.take-kept.ensures.gone

pub returns-clause-kept : goal.returns-clause-kept
returns-clause-kept c = c.loop-number.invariant.kept
