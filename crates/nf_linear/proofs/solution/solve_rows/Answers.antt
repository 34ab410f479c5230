use Rattle.std.proofs.Common.{◌≡◌, map, Bool, true, false, ap, sym, ◌∙◌, if◌then◌else◌, Some, None, Ok}
use Rattle.nf_linear.proofs.Common.{err_from_is_err_and, eliminated}
use Rattle.nf_frac_def.specs.declared.Halt.TheVariants as Halt
use Rattle.nf_linear.proofs.Answered.{columns_stop, not_one_listed, not_one, values_stop, one_listed, one}
use Rattle.nf_linear.proofs.solution.solve_rows.Goals as goal

pub returns-in_err-clear_columns-clause-list : goal.returns-in_err-clear_columns-clause-list
returns-in_err-clear_columns-clause-list g c =
    let p = err_from_is_err_and c.from_residual.result c.from_residual.ensures.1 in
    rw (p.1, p.2) (sym (columns_stop g.C.Number.Scalar.passes c.args.rows.now g.C.Number.Scalar.means (Halt.Passed c.in_err-clear_columns.field-0.0)
    (sym c.in_err-clear_columns.ensures.list)))

pub returns-then-not-branch-clause-list : goal.returns-then-not-branch-clause-list
returns-then-not-branch-clause-list g c =
    let not_found : c.in_ok-clear_columns.field-0 ≡ false = c.if-not-branch.true in
    let none = sym c.in_ok-clear_columns.ensures.list ∙ ap (λ (b : Bool). Ok (if b then Some (eliminated c.clear_columns.new.rows c.clear_columns.new.pivots) else None)) not_found in
    sym (not_one_listed g.C.Number.Scalar.passes c.args.rows.now none)

pub returns-then-not-branch-clause-solution : goal.returns-then-not-branch-clause-solution
returns-then-not-branch-clause-solution g c =
    let not_found : c.in_ok-clear_columns.field-0 ≡ false = c.if-not-branch.true in
    let none = sym c.in_ok-clear_columns.ensures.list ∙ ap (λ (b : Bool). Ok (if b then Some (eliminated c.clear_columns.new.rows c.clear_columns.new.pivots) else None)) not_found in
    not_one g.C.Number.Scalar.passes c.args.rows.now c.requires.square none

pub find_values-requires : goal.find_values-requires
find_values-requires g c =
    let cleared = c.in_ok-clear_columns.ensures {u = tt} in
    record {
      pivots = cleared.pivots c.if-not-branch.false;
      room = c.requires.room ∙ sym (c.clear_columns.auto.pivots ∙ c.requires.count);
    }

pub returns-in_err-find_values-clause-list : goal.returns-in_err-find_values-clause-list
returns-in_err-find_values-clause-list g c =
    let p = err_from_is_err_and c.from_residual-in_err-find_values.result c.from_residual-in_err-find_values.ensures.1 in
    let found : c.in_ok-clear_columns.field-0 ≡ true = c.if-not-branch.false in
    let some = sym c.in_ok-clear_columns.ensures.list ∙ ap (λ (b : Bool). Ok (if b then Some (eliminated c.clear_columns.new.rows c.clear_columns.new.pivots) else None)) found in
    rw (p.1, p.2) (sym (values_stop g.C.Number.Scalar.passes c.args.rows.now c.clear_columns.new.rows c.clear_columns.new.pivots some
    g.C.Number.Scalar.means (Halt.Passed c.in_err-find_values.field-0.0)
    (sym c.in_err-find_values.ensures)))

pub returns-clause-list : goal.returns-clause-list
returns-clause-list g c =
    let found : c.in_ok-clear_columns.field-0 ≡ true = c.if-not-branch.false in
    let some = sym c.in_ok-clear_columns.ensures.list ∙ ap (λ (b : Bool). Ok (if b then Some (eliminated c.clear_columns.new.rows c.clear_columns.new.pivots) else None)) found in
    sym (one_listed g.C.Number.Scalar.passes c.args.rows.now c.clear_columns.new.rows c.clear_columns.new.pivots some
    (map g.C.Number.Scalar.means c.find_values.new.found) (sym c.in_ok-find_values.ensures))

pub returns-clause-solution : goal.returns-clause-solution
returns-clause-solution g c =
    let found : c.in_ok-clear_columns.field-0 ≡ true = c.if-not-branch.false in
    let some = sym c.in_ok-clear_columns.ensures.list ∙ ap (λ (b : Bool). Ok (if b then Some (eliminated c.clear_columns.new.rows c.clear_columns.new.pivots) else None)) found in
    one g.C.Number.Scalar.passes c.args.rows.now c.clear_columns.new.rows c.clear_columns.new.pivots some
    (map g.C.Number.Scalar.means c.find_values.new.found) (sym c.in_ok-find_values.ensures) c.requires.square
