use Rattle.std.proofs.Common.{◌<◌, ◌≤◌, length, None, refl, arith, rules, option_map}
use Rattle.nf_check_rules.proofs.Common.{err_from_is_err_and, passes_Q, Grown, with_exit, labels_in, loaded_in}
use Rattle.nf_check_def.specs.Curves.{least_exits}
use Rattle.nf_check_rules.proofs.Looping.{link_there}
use Rattle.nf_check_rules.proofs.Folding.{fold_first, fold_stops, fold_goes, fold_last}
use Rattle.nf_check_rules.proofs.arriving.least_exits.Goals as goal

pub loop-number-init : goal.loop-number-init
loop-number-init c = record {
  folds =
      fold_first (with_exit passes_Q (labels_in c.args.worked.now) (loaded_in c.args.worked.now) c.args.worked.now.flow.now.reached c.args.node)
      c.args.worked.now.net.now.net.links None None refl;
  kept = c.requires;
}

pub returns-in_err-least-clause-list : goal.returns-in_err-least-clause-list
unfolding least_exits
returns-in_err-least-clause-list c =
    let p = err_from_is_err_and c.from_residual.result c.from_residual.ensures.1 in
    let inside : c.loop-number.number < length c.args.worked.now.net.now.net.links = omega arith in
    let there = link_there c.args.worked.now.net.now.net.links c.loop-number.number inside in
    rw (p.1, p.2) (fold_stops (with_exit passes_Q (labels_in c.args.worked.now)
    (loaded_in c.args.worked.now) c.args.worked.now.flow.now.reached c.args.node) c.args.worked.now.net.now.net.links None
    (option_map (λ (g : Grown). g.points) c.loop-number.least) c.loop-number.number c.loop-number.invariant.folds there.link there.is
    c.in_err-least.field-0.0 (c.in_err-least.ensures.list there.link there.is))

pub loop-number-preserved : goal.loop-number-preserved
loop-number-preserved c =
    let inside : c.loop-number.number < length c.args.worked.now.net.now.net.links = omega arith in
    let there = link_there c.args.worked.now.net.now.net.links c.loop-number.number inside in
    record {
      folds = fold_goes (with_exit passes_Q (labels_in c.args.worked.now) (loaded_in c.args.worked.now) c.args.worked.now.flow.now.reached c.args.node)
          c.args.worked.now.net.now.net.links None (option_map (λ (g : Grown). g.points) c.loop-number.least) c.loop-number.number
          c.loop-number.invariant.folds there.link there.is (option_map (λ (g : Grown). g.points) c.in_ok-least.least)
          (c.in_ok-least.ensures.list there.link there.is);
      kept = search rules;
    }

pub returns-clause-list : goal.returns-clause-list
unfolding least_exits
returns-clause-list c =
    let past : length c.args.worked.now.net.now.net.links ≤ c.loop-number.number = omega arith in
    fold_last (with_exit passes_Q (labels_in c.args.worked.now) (loaded_in c.args.worked.now) c.args.worked.now.flow.now.reached c.args.node)
    c.args.worked.now.net.now.net.links None (option_map (λ (g : Grown). g.points) c.loop-number.least) c.loop-number.number
    c.loop-number.invariant.folds past
