use Rattle.std.proofs.Common.{List, length, sym, ap, ◌∙◌}
use Rattle.nf_check.proofs.Common.{err_from_is_err_and, passes_Q, seen_flow, Loaded, trial, points_of_each, loadings_of, worked_list, compared_list, done}
use Rattle.nf_check.proofs.Common.{worked_known, goes_on, ends, ends_as, tries_as, tested-is}
use Rattle.nf_check_rules.specs.Steps.{tested_list}
use Rattle.nf_check.proofs.checking.test_with.Goals as goal

pub returns-in_err-loaded : goal.returns-in_err-loaded
unfolding tested_list
returns-in_err-loaded c =
    let p = err_from_is_err_and c.from_residual.result c.from_residual.ensures.1 in
    rw (p.1, p.2) (ends_as c.in_err-loaded.field-0.0 (done (trial passes_Q c.args.net.now.net (seen_flow c.args.flow.now))) _
    (tested-is passes_Q c.args.net.now.net (seen_flow c.args.flow.now))
    (ends c.in_err-loaded.field-0.0 (worked_list passes_Q c.args.net.now.net (seen_flow c.args.flow.now)) _ c.in_err-loaded.ensures.list))

pub invariant_of-worked : goal.invariant_of-worked
invariant_of-worked c =
    record {
      known = worked_known passes_Q c.args.net.now.net c.args.flow.now c.requires.given.checked c.args.labels.now _ c.requires.labels
          (ap (λ (l : List Loaded). length l) c.deref.ensures.value ∙ c.in_ok-loaded.ensures.count);
    }

pub returns : goal.returns
unfolding tested_list
returns c = tries_as (λ _. tt) c.compare_all.result (done (trial passes_Q c.args.net.now.net (seen_flow c.args.flow.now))) _
    (tested-is passes_Q c.args.net.now.net (seen_flow c.args.flow.now)
    ∙ goes_on (worked_list passes_Q c.args.net.now.net (seen_flow c.args.flow.now)) _ (points_of_each c.args.labels.now, loadings_of c.in_ok-loaded.loaded.items) c.in_ok-loaded.ensures.list
    ∙ ap (λ (l : List Loaded). compared_list passes_Q c.args.net.now.net (seen_flow c.args.flow.now) (points_of_each c.args.labels.now) (loadings_of l)) (sym c.deref.ensures.value))
    c.compare_all.ensures
