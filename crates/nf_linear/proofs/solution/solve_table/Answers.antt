use Rattle.std.proofs.Common.{◌≡◌, ℕ, ◌<◌, List, [], length, map, replicate, Bool, false, Ok, Some, sym, subst, ap, ◌∙◌, arith}
use Rattle.nf_linear.proofs.Common.{length-replicate, get_or-replicate, take_at, err_from_is_err_and, IfOk-from_err, IsOnlySolution, Eliminated, AreTaken}
use Rattle.nf_linear.proofs.Common.{values_if, IsTrueWith}
use Rattle.nf_linear.proofs.solution.solve_table.Goals as goal

pub returns-in_err-columns-clause-list : goal.returns-in_err-columns-clause-list
returns-in_err-columns-clause-list g c =
    let p = err_from_is_err_and c.from_residual.result c.from_residual.ensures.1 in
    rw (p.1, p.2) tt

pub returns-in_err-columns-clause-solution : goal.returns-in_err-columns-clause-solution
returns-in_err-columns-clause-solution g c = IfOk-from_err c.from_residual.result _ c.from_residual.ensures.0

pub returns-in_err-entries-clause-list : goal.returns-in_err-entries-clause-list
returns-in_err-entries-clause-list g c =
    let p = err_from_is_err_and c.from_residual-in_err-entries.result c.from_residual-in_err-entries.ensures.1 in
    rw (p.1, p.2) tt

pub returns-in_err-entries-clause-solution : goal.returns-in_err-entries-clause-solution
returns-in_err-entries-clause-solution g c = IfOk-from_err c.from_residual-in_err-entries.result _ c.from_residual-in_err-entries.ensures.0

pub returns-in_err-taken-clause-list : goal.returns-in_err-taken-clause-list
returns-in_err-taken-clause-list g c =
    let p = err_from_is_err_and c.from_residual-in_err-taken.result c.from_residual-in_err-taken.ensures.1 in
    rw (p.1, p.2) tt

pub returns-in_err-taken-clause-solution : goal.returns-in_err-taken-clause-solution
returns-in_err-taken-clause-solution g c = IfOk-from_err c.from_residual-in_err-taken.result _ c.from_residual-in_err-taken.ensures.0

pub returns-in_err-pivots-clause-list : goal.returns-in_err-pivots-clause-list
returns-in_err-pivots-clause-list g c =
    let p = err_from_is_err_and c.from_residual-in_err-pivots.result c.from_residual-in_err-pivots.ensures.1 in
    rw (p.1, p.2) tt

pub returns-in_err-pivots-clause-solution : goal.returns-in_err-pivots-clause-solution
returns-in_err-pivots-clause-solution g c = IfOk-from_err c.from_residual-in_err-pivots.result _ c.from_residual-in_err-pivots.ensures.0

pub returns-in_err-values-clause-list : goal.returns-in_err-values-clause-list
returns-in_err-values-clause-list g c =
    let p = err_from_is_err_and c.from_residual-in_err-values.result c.from_residual-in_err-values.ensures.1 in
    rw (p.1, p.2) tt

pub returns-in_err-values-clause-solution : goal.returns-in_err-values-clause-solution
returns-in_err-values-clause-solution g c = IfOk-from_err c.from_residual-in_err-values.result _ c.from_residual-in_err-values.ensures.0

pub solve_rows-requires-clause-square : goal.solve_rows-requires-clause-square
solve_rows-requires-clause-square g c = c.requires

pub solve_rows-requires-clause-sets : goal.solve_rows-requires-clause-sets
solve_rows-requires-clause-sets g c =
    let n : length c.deref_mut.result.now ≡ length c.args.rows.now = ap length (c.deref_mut.ensures.value ∙ c.in_ok-columns.ensures) ∙ length-replicate _ _ in
    omega arith

pub solve_rows-requires-clause-entries : goal.solve_rows-requires-clause-entries
solve_rows-requires-clause-entries g c =
    let n : length c.deref_mut-2.result.now ≡ length c.args.rows.now = ap length (c.deref_mut-2.ensures.value ∙ c.in_ok-entries.ensures) ∙ length-replicate _ _ in
    omega arith

pub solve_rows-requires-clause-flags : goal.solve_rows-requires-clause-flags
solve_rows-requires-clause-flags g c =
    let n : length c.deref_mut-3.result.now ≡ length c.args.rows.now = ap length (c.deref_mut-3.ensures.value ∙ c.in_ok-taken.ensures) ∙ length-replicate _ _ in
    omega arith

pub solve_rows-requires-clause-count : goal.solve_rows-requires-clause-count
solve_rows-requires-clause-count g c = ap length (c.deref_mut-4.ensures.value ∙ c.in_ok-pivots.ensures) ∙ length-replicate _ _

pub solve_rows-requires-clause-room : goal.solve_rows-requires-clause-room
solve_rows-requires-clause-room g c = ap length (c.deref_mut-5.ensures.value ∙ c.in_ok-values.ensures) ∙ length-replicate _ _

pub solve_rows-requires-clause-taken : goal.solve_rows-requires-clause-taken
solve_rows-requires-clause-taken g c =
    let n = length c.args.rows.now in
    let none : AreTaken (replicate n false) [] = λ i below d. get_or-replicate n i false d (subst (λ (k : ℕ). i < k) (length-replicate n false) below) in
    subst (λ (flags : List Bool). AreTaken flags []) (sym (c.deref_mut-3.ensures.value ∙ c.in_ok-taken.ensures)) none

pub returns-in_err-solve_rows-clause-list : goal.returns-in_err-solve_rows-clause-list
returns-in_err-solve_rows-clause-list g c =
    let p = err_from_is_err_and c.from_residual-in_err-solve_rows.result c.from_residual-in_err-solve_rows.ensures.1 in
    rw (p.1, p.2) (sym c.in_err-solve_rows.ensures.list)

pub returns-in_err-solve_rows-clause-solution : goal.returns-in_err-solve_rows-clause-solution
returns-in_err-solve_rows-clause-solution g c = IfOk-from_err c.from_residual-in_err-solve_rows.result _ c.from_residual-in_err-solve_rows.ensures.0

pub returns-in-One-clause-list : goal.returns-in-One-clause-list
returns-in-One-clause-list g c =
    let long = c.solve_rows.auto.found ∙ c.deref_mut-5.ensures.len in
    sym c.in_ok-solve_rows.ensures.list
    ∙ ap (λ (one : Eliminated). Ok (values_if one (map g.S.Scalar.means c.solve_rows.new.found))) c.in-One.is
    ∙ ap (λ found. Ok (Some (map g.S.Scalar.means found))) (sym (take_at c.solve_rows.new.found _ c.in_ok-values.values.len long))

pub returns-in-One-clause-solution : goal.returns-in-One-clause-solution
returns-in-One-clause-solution g c =
    let long = c.solve_rows.auto.found ∙ c.deref_mut-5.ensures.len in
    subst (λ found. IsOnlySolution c.args.rows.now (map g.S.Scalar.means found)) (sym (take_at c.solve_rows.new.found _ c.in_ok-values.values.len long))
    (subst (λ (one : Eliminated). IsTrueWith c.args.rows.now one (map g.S.Scalar.means c.solve_rows.new.found)) c.in-One.is c.in_ok-solve_rows.ensures.solution)

pub returns-clause-list : goal.returns-clause-list
returns-clause-list g c =
    sym c.in_ok-solve_rows.ensures.list ∙ ap (λ (one : Eliminated). Ok (values_if one (map g.S.Scalar.means c.solve_rows.new.found))) c.in-NotOne.is

pub returns-clause-solution : goal.returns-clause-solution
returns-clause-solution g c =
    subst (λ (one : Eliminated). IsTrueWith c.args.rows.now one (map g.S.Scalar.means c.solve_rows.new.found)) c.in-NotOne.is c.in_ok-solve_rows.ensures.solution
