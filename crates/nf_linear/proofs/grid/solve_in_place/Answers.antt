use Rattle.std.proofs.Common.{◌≡◌, ℕ, ◌<◌, ◌≤◌, List, length, map, replicate, false, Ok, Some, refl, sym, subst, ap, ◌∙◌, arith, length-take-le, IfErr}
use Rattle.nf_linear.proofs.Common.{length-replicate, get_or-replicate, map-id, err_from_is_err_and, IfOk-from_err, ℚ, IsOnlySolution, Eliminated}
use Rattle.nf_linear.proofs.Common.{values_if, IsTrueWith}
use Rattle.nf_linear.proofs.grid.solve_in_place.Goals as goal

pub whole_as_front-noted : goal.whole_as_front-noted
whole_as_front-noted g c = let few = c.requires.few in (c.requires.room, omega arith)

pub whole_as_front-front : goal.whole_as_front-front
whole_as_front-front g c = let few = c.requires.few in (c.requires.room, omega arith)

pub solve_rows-requires-room-C-Cells : goal.solve_rows-requires-room-C-Cells
solve_rows-requires-room-C-Cells g c κs = let few = c.requires.few in omega arith

pub solve_rows-requires-clause-square : goal.solve_rows-requires-clause-square
solve_rows-requires-clause-square g c = c.requires.square

pub solve_rows-requires-clause-entries : goal.solve_rows-requires-clause-entries
solve_rows-requires-clause-entries g c = subst (λ (k : ℕ). length c.args.rows.now ≤ k) (sym (length-replicate g.row.N _)) c.requires.room

pub solve_rows-requires-clause-sets : goal.solve_rows-requires-clause-sets
solve_rows-requires-clause-sets g c = subst (λ (k : ℕ). length c.args.rows.now ≤ k) (sym (length-replicate g.row.N _)) c.requires.room

pub solve_rows-requires-clause-flags : goal.solve_rows-requires-clause-flags
solve_rows-requires-clause-flags g c = subst (λ (k : ℕ). length c.args.rows.now ≤ k) (sym (length-replicate g.row.N false)) c.requires.room

pub solve_rows-requires-clause-count : goal.solve_rows-requires-clause-count
solve_rows-requires-clause-count g c =
    length-take-le (length c.args.rows.now) (replicate g.row.N 0) (subst (λ (k : ℕ). length c.args.rows.now ≤ k)
    (sym (length-replicate g.row.N 0)) c.requires.room)

pub solve_rows-requires-clause-room : goal.solve_rows-requires-clause-room
solve_rows-requires-clause-room g c =
    length-take-le (length c.args.rows.now) (replicate g.row.N c.zero-found.result)
    (subst (λ (k : ℕ). length c.args.rows.now ≤ k) (sym (length-replicate g.row.N c.zero-found.result)) c.requires.room)

pub solve_rows-requires-clause-taken : goal.solve_rows-requires-clause-taken
solve_rows-requires-clause-taken g c = λ i below d. get_or-replicate g.row.N i false d (subst (λ (k : ℕ). i < k) (length-replicate g.row.N false) below)

pub returns-in_err-solve_rows-clause-list : goal.returns-in_err-solve_rows-clause-list
returns-in_err-solve_rows-clause-list g c =
    let p = err_from_is_err_and c.from_residual.result c.from_residual.ensures.1 in
    rw (p.1, p.2) c.in_err-solve_rows.ensures.list

pub returns-in_err-solve_rows-clause-solution : goal.returns-in_err-solve_rows-clause-solution
returns-in_err-solve_rows-clause-solution g c = IfOk-from_err c.from_residual.result _ c.from_residual.ensures.0

pub returns-in_err-solve_rows-clause-not_one : goal.returns-in_err-solve_rows-clause-not_one
returns-in_err-solve_rows-clause-not_one g c = IfOk-from_err c.from_residual.result _ c.from_residual.ensures.0

pub returns-in_err-solve_rows-clause-passed : goal.returns-in_err-solve_rows-clause-passed
returns-in_err-solve_rows-clause-passed g c =
    let p = err_from_is_err_and c.from_residual.result c.from_residual.ensures.1 in
    subst (λ r. IfErr r (λ _. c.args.values.now ≡ c.args.values.now)) (sym p.1) refl

pub copy_from_slice-requires : goal.copy_from_slice-requires
copy_from_slice-requires g c =
    c.requires.values
    ∙ sym (c.solve_rows.auto.found ∙ length-take-le (length c.args.rows.now) (replicate g.row.N c.zero-found.result)
    (subst (λ (k : ℕ). length c.args.rows.now ≤ k) (sym (length-replicate g.row.N c.zero-found.result)) c.requires.room))

pub returns-in-One-clause-list : goal.returns-in-One-clause-list
returns-in-One-clause-list g c =
    ap (λ (l : List ℚ). Ok (Some l)) (c.copy_from_slice.ensures.after ∙ sym (map-id c.solve_rows.new.found))
    ∙ sym (ap (λ (one : Eliminated). Ok (values_if one (map (λ (q : ℚ). q) c.solve_rows.new.found))) c.in-One.is)
    ∙ c.in_ok-solve_rows.ensures.list

pub returns-in-One-clause-solution : goal.returns-in-One-clause-solution
returns-in-One-clause-solution g c =
    subst (λ (l : List ℚ). IsOnlySolution c.args.rows.now l) (sym (c.copy_from_slice.ensures.after ∙ sym (map-id c.solve_rows.new.found)))
    (subst (λ (one : Eliminated). IsTrueWith c.args.rows.now one (map (λ (q : ℚ). q) c.solve_rows.new.found)) c.in-One.is c.in_ok-solve_rows.ensures.solution)

pub returns-in-One-clause-not_one : goal.returns-in-One-clause-not_one
returns-in-One-clause-not_one g c = λ e. absurd (cc)

pub returns-in-One-clause-passed : goal.returns-in-One-clause-passed
returns-in-One-clause-passed g c = tt

pub returns-in-NotOne-clause-list : goal.returns-in-NotOne-clause-list
returns-in-NotOne-clause-list g c =
    sym (ap (λ (one : Eliminated). Ok (values_if one (map (λ (q : ℚ). q) c.solve_rows.new.found))) c.in-NotOne.is) ∙ c.in_ok-solve_rows.ensures.list

pub returns-in-NotOne-clause-solution : goal.returns-in-NotOne-clause-solution
returns-in-NotOne-clause-solution g c =
    subst (λ (one : Eliminated). IsTrueWith c.args.rows.now one (map (λ (q : ℚ). q) c.solve_rows.new.found)) c.in-NotOne.is c.in_ok-solve_rows.ensures.solution

pub returns-in-NotOne-clause-not_one : goal.returns-in-NotOne-clause-not_one
returns-in-NotOne-clause-not_one g c = λ _. refl

pub returns-in-NotOne-clause-passed : goal.returns-in-NotOne-clause-passed
returns-in-NotOne-clause-passed g c = tt
