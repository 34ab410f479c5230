use Rattle.std.proofs.Common.{ℕ, ◌+◌, ◌≤◌, List, length, replicate, sym, subst, ap, ◌∙◌, arith, length-take-le, IfOk}
use Rattle.nf_linear.proofs.Common.{0ℚ, passes_Q, at_part, Row, table_list, IsTrueWith}
use Rattle.nf_frac_def.specs.declared.Part.TheVariants as Part
use Rattle.nf_linear.proofs.Written.{seen_long, zero_seen, zeros_square, still_long}
use Rattle.nf_linear.proofs.grid.solve_grid.Goals as goal

pub whole_as_front-solve_in_place : goal.whole_as_front-solve_in_place
whole_as_front-solve_in_place g c = let few = c.grid.invariant.0 in (c.grid.invariant.1, omega arith)

pub solve_in_place-solved-requires : goal.solve_in_place-solved-requires
solve_in_place-solved-requires g c =
    let few = c.grid.invariant.0 in
    let within = c.grid.invariant.1 in
    let told = c.grid.told in
    let long : c.grid.inside.size ≤ length c.grid.inside.rows = omega arith in
    let count = length-take-le c.grid.inside.size c.grid.inside.rows long in
    (omega arith, (c.grid.invariant.2, (omega arith, (few, c.requires ∙ sym (ap length c.grid.view_is)))))

pub whole_as_front-wipe : goal.whole_as_front-wipe
whole_as_front-wipe g c = let few = c.grid.invariant.0 in (c.grid.invariant.1, omega arith)

pub wipe-requires : goal.wipe-requires
wipe-requires g c = let few = c.grid.invariant.0 in (omega arith, c.grid.invariant.1)

pub invariant_of-grid : goal.invariant_of-grid
invariant_of-grid g c =
    let within = c.grid.invariant.1 in
    let told = c.grid.told in
    let long : c.grid.inside.size ≤ length c.grid.inside.rows = omega arith in (
      c.grid.invariant.0,
      within,
      zeros_square c.grid.inside.size _ c.wipe.new.rows _
          (still_long c.grid.inside.rows c.grid.inside.size c.solve_in_place-solved.new.rows long c.solve_in_place-solved.auto.rows) c.wipe.ensures,
    )

pub returns-clause-list : goal.returns-clause-list
returns-clause-list g c = c.solve_in_place-solved.ensures.list ∙ ap (λ (l : List Row). at_part Part.Table (table_list passes_Q l)) c.grid.view_is

pub returns-clause-solution : goal.returns-clause-solution
returns-clause-solution g c =
    subst (λ (l : List Row). IfOk c.solve_in_place-solved.result (λ found. IsTrueWith l found c.solve_in_place-solved.new.values)) c.grid.view_is c.solve_in_place-solved.ensures.solution

pub returns-clause-not_one : goal.returns-clause-not_one
returns-clause-not_one g c = c.solve_in_place-solved.ensures.not_one

pub returns-clause-passed : goal.returns-clause-passed
returns-clause-passed g c = c.solve_in_place-solved.ensures.passed

pub returns-clause-zero : goal.returns-clause-zero
returns-clause-zero g c =
    let within = c.grid.invariant.1 in
    let told = c.grid.told in
    let long : c.grid.inside.size ≤ length c.grid.inside.rows = omega arith in
    zero_seen c.grid.inside.size _ c.wipe.new.rows _ (still_long c.grid.inside.rows c.grid.inside.size c.solve_in_place-solved.new.rows long
    c.solve_in_place-solved.auto.rows) c.wipe.ensures
    ∙ ap (λ (k : ℕ). replicate k (replicate (k + 1) 0ℚ)) (sym (seen_long c.grid.inside.rows c.args.grid.now c.grid.inside.size long c.grid.view_is))
