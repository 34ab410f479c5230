use Rattle.std.proofs.Common.{◌<◌, length, List, refl, subst, arith}
use Rattle.std.proofs.lemmas.Option.{slice_get_read}
use Rattle.nf_rational.specs.Rational.{ℚ}
use Rattle.nf_linear_laws.specs.Solution.{IsOnlySolution}
use Rattle.nf_linear.specs.Solved.{IsTrueOf}
use Rattle.nf_linear.specs.declared.solution.Solved.{Solved}
use Rattle.library_callers.proofs.Shares.{one_solution, two_flows, whole_of, same_share, only_flows}
use Rattle.library_callers.proofs.linear.split_rate.Goals as goal

pub unreachable-requires : goal.unreachable-requires
unreachable-requires c =
    one_solution c.args.rate c.args.first c.args.second c.requires.first c.requires.second
    (subst (λ (rows : List (List ℚ)). (xs : List ℚ) → IsOnlySolution rows xs → ⊥) c.in_ok-table.ensures
    (subst (λ (s : Solved ℚ). IsTrueOf (λ (q : ℚ). q) c.in_ok-table.table s) c.in-NotOne.is c.in_ok-flows.ensures.solution))

pub returns-clause-whole : goal.returns-clause-whole
returns-clause-whole c =
    let items = c.in-One.flows.items in
    let o = only_flows c.args.rate c.args.first c.args.second items c.in_ok-table.table c.in_ok-table.ensures
    (subst (λ (s : Solved ℚ). IsTrueOf (λ (q : ℚ). q) c.in_ok-table.table s) c.in-One.is c.in_ok-flows.ensures.solution) in
    let two = two_flows c.args.rate c.args.first c.args.second items o in
    let first_there : 0 < length c.in-One.flows.items = omega (arith, two) in
    let second_there : 1 < length c.in-One.flows.items = omega (arith, two) in
    whole_of c.args.rate c.args.first c.args.second items c.index.result.now c.index-in-One.result.now o
    (slice_get_read items _ 0 c.index.result.now refl first_there c.index.ensures)
    (slice_get_read items _ 1 c.index-in-One.result.now refl second_there c.index-in-One.ensures)

pub returns-clause-shares : goal.returns-clause-shares
returns-clause-shares c =
    let items = c.in-One.flows.items in
    let o = only_flows c.args.rate c.args.first c.args.second items c.in_ok-table.table c.in_ok-table.ensures
    (subst (λ (s : Solved ℚ). IsTrueOf (λ (q : ℚ). q) c.in_ok-table.table s) c.in-One.is c.in_ok-flows.ensures.solution) in
    let two = two_flows c.args.rate c.args.first c.args.second items o in
    let first_there : 0 < length c.in-One.flows.items = omega (arith, two) in
    let second_there : 1 < length c.in-One.flows.items = omega (arith, two) in
    same_share c.args.rate c.args.first c.args.second c.requires.first c.requires.second items c.index.result.now c.index-in-One.result.now o
    (slice_get_read items _ 0 c.index.result.now refl first_there c.index.ensures)
    (slice_get_read items _ 1 c.index-in-One.result.now refl second_there c.index-in-One.ensures)
