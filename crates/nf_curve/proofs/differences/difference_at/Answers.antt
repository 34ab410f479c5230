use Rattle.std.proofs.Common.{Bool, true, false, refl, sym, ap, ◌∙◌, Some, None, Ok, if◌then◌else◌}
use Rattle.nf_curve.proofs.Common.{err_from_is_err_and, passes_Q, at_part, ◌>>=◌, sides_at, differ_at, sides_of}
use Rattle.nf_curve.proofs.Exits.{after_err, after_ok}
use Rattle.nf_curve.proofs.Differing.{step_found}
use Rattle.nf_curve.proofs.differences.difference_at.Goals as goal
use Rattle.nf_curve.proofs.differences.difference_at.Goals.{else-do_differ-via-then-do_differ+in_ok-is_corner+else-branch, else-do_differ-via-else-do_differ}

pub returns-in_err-is_corner-clause-found : goal.returns-in_err-is_corner-clause-found
returns-in_err-is_corner-clause-found c =
    let p = err_from_is_err_and c.from_residual-in_err-is_corner.result c.from_residual-in_err-is_corner.ensures.1 in
    rw (p.1, p.2) (sym (after_ok c.args.part (sides_at passes_Q c.args.left.now c.args.right.now c.args.now.now.time) _ (sides_of c.in_ok-sides.sides) (sym c.in_ok-sides.ensures.list)
    ∙ ap (λ (b : Bool). at_part c.args.part (differ_at passes_Q b c.args.now.now.time c.args.left.now c.args.right.now >>= λ ends. Ok
    (if ends then Some (sides_of c.in_ok-sides.sides) else None)))
    (sym c.do_differ.ensures ∙ c.if-do_differ.true)
    ∙ after_err c.args.part (differ_at passes_Q true c.args.now.now.time c.args.left.now c.args.right.now)
    (λ ends. Ok (if ends then Some (sides_of c.in_ok-sides.sides) else None)) c.in_err-is_corner.field-0.0 (sym c.in_err-is_corner.ensures)))

pub returns-then-branch-clause-found : goal.returns-then-branch-clause-found
returns-then-branch-clause-found c =
    step_found passes_Q c.args.left.now c.args.right.now c.args.now.now.time c.args.part (sides_of c.in_ok-sides.sides) true c.in_ok-is_corner.field-0 true c.in_ok-sides.ensures.list
    (sym c.do_differ.ensures ∙ c.if-do_differ.true) c.in_ok-is_corner.ensures c.if-branch.true

pub returns-else-do_differ-clause-found : goal.returns-else-do_differ-clause-found
returns-else-do_differ-clause-found c = elim c.else-do_differ.branch [
  | else-do_differ-via-then-do_differ+in_ok-is_corner+else-branch w ↦
      step_found passes_Q c.args.left.now c.args.right.now c.args.now.now.time c.args.part (sides_of c.in_ok-sides.sides) true w.in_ok-is_corner.field-0 false c.in_ok-sides.ensures.list
      (sym c.do_differ.ensures ∙ w.if-do_differ.true) w.in_ok-is_corner.ensures w.if-branch.false
  | else-do_differ-via-else-do_differ w ↦
      step_found passes_Q c.args.left.now c.args.right.now c.args.now.now.time c.args.part (sides_of c.in_ok-sides.sides) false false false c.in_ok-sides.ensures.list
      (sym c.do_differ.ensures ∙ w.if-do_differ.false) refl refl
]
