use Rattle.std.proofs.Common.{◌≡◌, ℕ, ◌+◌, ◌<◌, ◌≤◌, List, length, take, Bool, true, false, refl, ap, sym, subst, ◌∙◌, arith, if◌then◌else◌, Some, None, Ok}
use Rattle.nf_linear.proofs.Common.{false≢true, err_from_is_err_and, IfOk-from_err, take_all, eliminated, HasPivots}
use Rattle.nf_frac_def.specs.declared.Halt.TheVariants as Halt
use Rattle.nf_linear.proofs.Stages.{first_stage, stage_square, stage_none, stage_stops, stage_more, stage_all, stage_pivots}
use Rattle.nf_linear.proofs.elimination.clear_columns.Goals as goal

pub loop-column-init : goal.loop-column-init
loop-column-init g c = (first_stage g.C.Number.Scalar.passes c.args.rows.now c.requires.square, c.requires.taken, refl, refl, refl, c.mark_rows.ensures, c.mark_rows.auto.columns)

pub clear_column-requires : goal.clear_column-requires
clear_column-requires g c =
    let here : c.loop-column.column < length c.args.rows.now = c.loop-column-test.true in
    let rows = c.loop-column.invariant.0.cleared.count in
    let entries = c.loop-column.invariant.2 in
    let taken = c.loop-column.invariant.3 in
    let pivots = c.loop-column.invariant.4 in
    let room = c.requires.entries in
    let flags = c.requires.flags in
    let count = c.requires.count in
    let columns = c.loop-column.invariant.6 in
    let sets = c.requires.sets in
    record {
      square = stage_square g.C.Number.Scalar.passes c.args.rows.now c.loop-column.rows (take c.loop-column.column c.loop-column.pivots) c.loop-column.column c.loop-column.invariant.0;
      column = omega arith;
      entries = omega arith;
      flags = omega arith;
      count = omega arith;
      taken = c.loop-column.invariant.1;
      sets = omega arith;
      covers = c.loop-column.invariant.5;
    }

pub loop-column-preserved : goal.loop-column-preserved
loop-column-preserved g c =
    let here : c.loop-column.column < length c.args.rows.now = c.loop-column-test.true in
    let found : c.in_ok-clear_column.field-0 ≡ true = c.if-not-branch.false in
    let cleared = c.in_ok-clear_column.ensures {u = tt} in (
      stage_more g.C.Number.Scalar.passes c.args.rows.now c.loop-column.rows (take c.loop-column.column c.loop-column.pivots) c.loop-column.column c.loop-column.invariant.0 here
          c.clear_column.new.rows (take (c.loop-column.column + 1) c.clear_column.new.pivots)
          (sym c.in_ok-clear_column.ensures.list ∙ ap (λ (b : Bool). Ok (if b then Some
          (eliminated c.clear_column.new.rows (take (c.loop-column.column + 1) c.clear_column.new.pivots)) else None)) found),
      cleared.taken found,
      c.clear_column.auto.entries ∙ c.loop-column.invariant.2,
      c.clear_column.auto.taken ∙ c.loop-column.invariant.3,
      c.clear_column.auto.pivots ∙ c.loop-column.invariant.4,
      cleared.covers,
      c.clear_column.auto.columns ∙ c.loop-column.invariant.6,
    )

pub returns-in_err-clear_column-clause-list : goal.returns-in_err-clear_column-clause-list
returns-in_err-clear_column-clause-list g c =
    let p = err_from_is_err_and c.from_residual.result c.from_residual.ensures.1 in
    let here : c.loop-column.column < length c.args.rows.now = c.loop-column-test.true in
    rw (p.1, p.2) (sym (stage_stops g.C.Number.Scalar.passes c.args.rows.now c.loop-column.rows
    (take c.loop-column.column c.loop-column.pivots) c.loop-column.column c.loop-column.invariant.0 here
    g.C.Number.Scalar.means (Halt.Passed c.in_err-clear_column.field-0.0) (sym c.in_err-clear_column.ensures.list)))

pub returns-in_err-clear_column-clause-pivots : goal.returns-in_err-clear_column-clause-pivots
returns-in_err-clear_column-clause-pivots g c = IfOk-from_err c.from_residual.result _ c.from_residual.ensures.0

pub returns-then-not-branch-clause-list : goal.returns-then-not-branch-clause-list
returns-then-not-branch-clause-list g c =
    let here : c.loop-column.column < length c.args.rows.now = c.loop-column-test.true in
    let not_found : c.in_ok-clear_column.field-0 ≡ false = c.if-not-branch.true in
    sym (stage_none g.C.Number.Scalar.passes c.args.rows.now c.loop-column.rows (take c.loop-column.column c.loop-column.pivots) c.loop-column.column c.loop-column.invariant.0 here
    (sym c.in_ok-clear_column.ensures.list ∙ ap (λ (b : Bool). Ok (if b then Some
    (eliminated c.clear_column.new.rows (take (c.loop-column.column + 1) c.clear_column.new.pivots)) else None)) not_found))

pub returns-then-not-branch-clause-pivots : goal.returns-then-not-branch-clause-pivots
returns-then-not-branch-clause-pivots g c = λ e. absurd (false≢true e)

pub returns-clause-list : goal.returns-clause-list
returns-clause-list g c =
    let test = c.loop-column-test.false in
    let rows = c.loop-column.invariant.0.cleared.count in
    let end : length c.loop-column.rows ≤ c.loop-column.column = omega arith in
    let pivots = c.loop-column.invariant.4 in
    let count = c.requires.count in
    let whole = take_all c.loop-column.column c.loop-column.pivots (omega arith) in
    ap (λ (all : List ℕ). Ok (Some (eliminated c.loop-column.rows all))) (sym whole)
    ∙ sym (stage_all g.C.Number.Scalar.passes c.args.rows.now c.loop-column.rows
    (take c.loop-column.column c.loop-column.pivots) c.loop-column.column c.loop-column.invariant.0 end)

pub returns-clause-pivots : goal.returns-clause-pivots
returns-clause-pivots g c =
    let test = c.loop-column-test.false in
    let rows = c.loop-column.invariant.0.cleared.count in
    let end : length c.loop-column.rows ≤ c.loop-column.column = omega arith in
    let pivots = c.loop-column.invariant.4 in
    let count = c.requires.count in
    let whole = take_all c.loop-column.column c.loop-column.pivots (omega arith) in
    λ _. subst (HasPivots c.loop-column.rows) whole (stage_pivots g.C.Number.Scalar.passes c.args.rows.now c.loop-column.rows
    (take c.loop-column.column c.loop-column.pivots) c.loop-column.column c.loop-column.invariant.0 end c.loop-column.auto.column-end)
