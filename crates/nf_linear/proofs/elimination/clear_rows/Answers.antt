use Rattle.std.proofs.Common.{◌≡◌, ℕ, ◌+◌, ◌<◌, List, length, set, get_or, Ok, Err, refl, sym, subst, ◌∙◌, length-set, arith}
use Rattle.nf_linear.proofs.Common.{AllByRecursion, err_from_is_err_and, IfOk-from_err, ℚ, at_part, seen_passed_at, row_at, meant}
use Rattle.nf_frac_def.specs.declared.Part.TheVariants as Part
use Rattle.nf_linear.proofs.Clearing.{step, cleared_first, cleared_all, cleared_more, cleared_stops, row_before, row_got}
use Rattle.nf_linear.proofs.Covering.{same_noted}
use Rattle.nf_linear.proofs.Skips.{cleared_skipped}
use Rattle.nf_linear.proofs.elimination.clear_rows.Goals as goal

pub loop-i-init : goal.loop-i-init
loop-i-init g c =
    let from = c.next-i.ensures.later.0 in
    let end = c.next-i.ensures.later.1 in (
      cleared_skipped g.C.Number.Scalar.passes c.args.column c.args.pivot (g.C.Number.Scalar.means c.args.own)
          (meant g.C.Number.Scalar.means c.args.later.now) c.args.rows.now c.args.rows.now 0 c.next-i.result from end refl
          (λ k after before. c.requires.marked k (c.next-i.ensures.free k after before))
          (cleared_first g.C.Number.Scalar.passes c.args.column c.args.pivot (g.C.Number.Scalar.means c.args.own) (meant g.C.Number.Scalar.means c.args.later.now) c.args.rows.now),
      λ k free. refl,
      end,
    )

pub loop-i-preserved : goal.loop-i-preserved
loop-i-preserved g c =
    let here : c.loop-i.i < length c.loop-i.rows = c.loop-i-test.true in
    let whole = c.loop-i.auto.rows in
    let from = c.next-i-in-loop-i.ensures.later.0 in
    let end = c.next-i-in-loop-i.ensures.later.1 in
    let long = length-set c.loop-i.rows c.loop-i.i c.clear_one.new.row in
    let read : get_or c.loop-i.rows c.loop-i.i c.index-rows-i.result ≡ row_at c.loop-i.rows c.loop-i.i = row_got c.loop-i.rows c.loop-i.i c.index-rows-i.result here in
    let given : Ok c.clear_one.new.row ≡ at_part Part.Table (step g.C.Number.Scalar.passes c.args.column c.args.pivot (g.C.Number.Scalar.means c.args.own)
    (meant g.C.Number.Scalar.means c.args.later.now) c.loop-i.i (get_or c.loop-i.rows c.loop-i.i c.index-rows-i.result)) =
    c.in_ok-is_cleared.ensures.list in (
      cleared_skipped g.C.Number.Scalar.passes c.args.column c.args.pivot (g.C.Number.Scalar.means c.args.own)
          (meant g.C.Number.Scalar.means c.args.later.now) c.args.rows.now (set c.loop-i.rows c.loop-i.i c.clear_one.new.row)
          (c.loop-i.i + 1) c.next-i-in-loop-i.result from (omega arith) (omega arith)
          (λ k after before. c.requires.marked k (c.next-i-in-loop-i.ensures.free k after before))
          (cleared_more g.C.Number.Scalar.passes c.args.column c.args.pivot (g.C.Number.Scalar.means c.args.own)
          (meant g.C.Number.Scalar.means c.args.later.now) c.args.rows.now c.loop-i.rows c.loop-i.i here c.loop-i.invariant.0 c.clear_one.new.row
          (subst (λ (row : List ℚ). Ok c.clear_one.new.row ≡ at_part Part.Table
          (step g.C.Number.Scalar.passes c.args.column c.args.pivot (g.C.Number.Scalar.means c.args.own)
          (meant g.C.Number.Scalar.means c.args.later.now) c.loop-i.i row)) read given)),
      same_noted c.loop-i.cleared c.put_if.new.self c.loop-i.i c.loop-i.rows c.args.rows.now c.clear_one.new.row c.in_ok-is_cleared.is_cleared here
          c.put_if.ensures.kept c.put_if.ensures.put
          (λ stays. c.in_ok-is_cleared.ensures.kept stays ∙ read) c.loop-i.invariant.1,
      omega arith,
    )

pub returns-in_err-is_cleared-clause-list : goal.returns-in_err-is_cleared-clause-list
returns-in_err-is_cleared-clause-list g c =
    let here : c.loop-i.i < length c.loop-i.rows = c.loop-i-test.true in
    let p = err_from_is_err_and c.from_residual.result c.from_residual.ensures.1 in
    let stop : Err (seen_passed_at g.C.Number.Scalar.means c.in_err-is_cleared.field-0.0) ≡ at_part Part.Table
    (step g.C.Number.Scalar.passes c.args.column c.args.pivot (g.C.Number.Scalar.means c.args.own)
    (meant g.C.Number.Scalar.means c.args.later.now) c.loop-i.i (get_or c.loop-i.rows c.loop-i.i c.index-rows-i.result)) =
    c.in_err-is_cleared.ensures.list in
    rw (p.1, p.2) (cleared_stops g.C.Number.Scalar.passes c.args.column c.args.pivot (g.C.Number.Scalar.means c.args.own)
    (meant g.C.Number.Scalar.means c.args.later.now) c.args.rows.now c.loop-i.rows c.loop-i.i here c.loop-i.invariant.0
    (seen_passed_at g.C.Number.Scalar.means c.in_err-is_cleared.field-0.0)
    (subst (λ (row : List ℚ). Err (seen_passed_at g.C.Number.Scalar.means c.in_err-is_cleared.field-0.0) ≡ at_part Part.Table
    (step g.C.Number.Scalar.passes c.args.column c.args.pivot (g.C.Number.Scalar.means c.args.own)
    (meant g.C.Number.Scalar.means c.args.later.now) c.loop-i.i row))
    (row_got c.loop-i.rows c.loop-i.i c.index-rows-i.result here) stop))

pub returns-clause-list : goal.returns-clause-list
returns-clause-list g c =
    cleared_all g.C.Number.Scalar.passes c.args.column c.args.pivot (g.C.Number.Scalar.means c.args.own)
    (meant g.C.Number.Scalar.means c.args.later.now) c.args.rows.now c.loop-i.rows c.loop-i.i
    c.loop-i-test.false c.loop-i.invariant.0

pub clear_one-requires : goal.clear_one-requires
clear_one-requires g c =
    let here : c.loop-i.i < length c.loop-i.rows = c.loop-i-test.true in
    let inside : c.loop-i.i < length c.args.rows.now = subst (λ (n : ℕ). c.loop-i.i < n) c.loop-i.auto.rows c.loop-i-test.true in
    record {
      column = subst (λ (row : List ℚ). c.args.column < length row)
          (sym (row_got c.loop-i.rows c.loop-i.i c.index-rows-i.result here
          ∙ row_before g.C.Number.Scalar.passes c.args.column c.args.pivot (g.C.Number.Scalar.means c.args.own)
          (meant g.C.Number.Scalar.means c.args.later.now) c.args.rows.now c.loop-i.rows c.loop-i.i here c.loop-i.invariant.0 inside))
          (c.requires.column c.loop-i.i inside);
      later = subst (λ (row : List ℚ). AllByRecursion (λ (other : ℕ × ℚ). other.0 < length row) (meant g.C.Number.Scalar.means c.args.later.now))
          (sym (row_got c.loop-i.rows c.loop-i.i c.index-rows-i.result here
          ∙ row_before g.C.Number.Scalar.passes c.args.column c.args.pivot (g.C.Number.Scalar.means c.args.own)
          (meant g.C.Number.Scalar.means c.args.later.now) c.args.rows.now c.loop-i.rows c.loop-i.i here c.loop-i.invariant.0 inside))
          (c.requires.later c.loop-i.i inside);
      own = c.requires.own;
    }

pub returns-clause-kept : goal.returns-clause-kept
returns-clause-kept g c = c.loop-i.invariant.1

pub returns-in_err-is_cleared-clause-kept : goal.returns-in_err-is_cleared-clause-kept
returns-in_err-is_cleared-clause-kept g c = IfOk-from_err c.from_residual.result _ c.from_residual.ensures.0
