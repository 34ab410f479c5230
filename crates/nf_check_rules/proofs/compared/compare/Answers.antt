use Rattle.std.proofs.Common.{option_map, sym}
use Rattle.nf_check_rules.proofs.Common.{compared_by, Ended, in_part, difference_of, Check, passes_Q, err_from_is_err_and}
use Rattle.nf_check_rules.proofs.Trying.{ends, part_passes, part_goes, tries_as}
use Rattle.nf_curve_def.specs.Differences.{checked_difference}
use Rattle.nf_check_rules.proofs.compared.compare.Goals as goal

pub returns-in_err-difference : goal.returns-in_err-difference
returns-in_err-difference c =
    let p = err_from_is_err_and c.from_residual.result c.from_residual.ensures.1 in
    let difference = checked_difference passes_Q c.args.left.now.points c.args.right.now.points c.args.last in
    rw (p.1, p.2) (ends (Ended.Passed c.in_err-difference.field-0.0) (in_part Check difference) _
    (part_passes Check difference c.in_err-difference.field-0.0 (sym c.in_err-difference.ensures.list)))

pub returns : goal.returns
returns c =
    tries_as (λ _. tt) c.unless.result (compared_by passes_Q c.args.rule c.args.subject c.args.left.now.points c.args.right.now.points c.args.last) _
    (part_goes Check (checked_difference passes_Q c.args.left.now.points c.args.right.now.points c.args.last) _
    (option_map difference_of c.in_ok-difference.difference) (sym c.in_ok-difference.ensures.list))
    c.unless.ensures
