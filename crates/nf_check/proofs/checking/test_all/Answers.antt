use Rattle.std.proofs.Common.{◌≡◌, List, ap, subst, sym, ◌∙◌, Ok}
use Rattle.nf_check.proofs.Common.{err_from_is_err_and, passes_Q, each, seen_flow, Grown, numbers_of_nodes, label_cut, trial, points_of_each, worked_list}
use Rattle.nf_check.proofs.Common.{tested_list, done, ends, ends_as, tested-is, labels_end, AreWhole}
use Rattle.nf_check.proofs.checking.test_all.Goals as goal

pub are_whole-requires : goal.are_whole-requires
are_whole-requires c = c.requires.checked.reached

pub check_labels-requires-clause-whole : goal.check_labels-requires-clause-whole
check_labels-requires-clause-whole c = subst (λ (l : List Grown). AreWhole l c.args.flow.now.reached) c.deref.ensures.value (c.are_whole.ensures c.if-are_whole.true)

pub returns-in_err-check_labels : goal.returns-in_err-check_labels
returns-in_err-check_labels c =
    let p = err_from_is_err_and c.from_residual.result c.from_residual.ensures.1 in
    rw (p.1, p.2) (labels_end passes_Q c.args.net.now.net (seen_flow c.args.flow.now) c.in_err-check_labels.field-0.0 c.in_err-check_labels.ensures)

pub test_with-requires-clause-labels : goal.test_with-requires-clause-labels
test_with-requires-clause-labels c = c.in_ok-check_labels.ensures ∙ ap (λ (l : List Grown). Ok (points_of_each l)) (sym c.deref-then-are_whole.ensures.value)

pub returns-in_err-labels : goal.returns-in_err-labels
returns-in_err-labels c =
    let p = err_from_is_err_and c.from_residual-in_err-labels.result c.from_residual-in_err-labels.ensures.1 in
    rw (p.1, p.2) (labels_end passes_Q c.args.net.now.net (seen_flow c.args.flow.now) c.in_err-labels.field-0.0 c.in_err-labels.ensures)

pub test_with-requires-2-clause-labels : goal.test_with-requires-2-clause-labels
test_with-requires-2-clause-labels c = c.in_ok-labels.ensures ∙ ap (λ (l : List Grown). Ok (points_of_each l)) (sym c.deref-2.ensures.value)
