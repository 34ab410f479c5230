use Rattle.std.proofs.Common.{◌≡◌, refl, ap, ◌∙◌, arith}
use Rattle.std.specs.Prelude.{Ok, Err}
use Rattle.std.proofs.lemmas.Result.{err_from_is_err_and}
use Rattle.nf_rational.specs.Rational.{ℚ}
use Rattle.nf_rational.specs.Operations.{1ℚ, ◌+ℚ◌}
use Rattle.nf_frac_def.specs.declared.Op.TheVariants.{Sum, Quotient}
use Rattle.nf_frac_def.specs.Passing.{passes_Q}
use Rattle.library_callers.proofs.OneOperation.{value_of, passing_of}
use Rattle.library_callers.proofs.Halves.{two_apart, half_twice}
use Rattle.library_callers.proofs.frac.mean.Goals as goal

pub returns-in_err-two-clause-passed : goal.returns-in_err-two-clause-passed
returns-in_err-two-clause-passed c =
    let p = err_from_is_err_and c.from_residual.result c.from_residual.ensures.1 in
    rw (p.1, p.2) (passing_of passes_Q Sum c.one.result c.one-2.result (Err c.in_err-two.field-0.0) c.in_err-two.ensures)

pub returns-in_err-sum-clause-passed : goal.returns-in_err-sum-clause-passed
returns-in_err-sum-clause-passed c =
    let p = err_from_is_err_and c.from_residual-in_err-sum.result c.from_residual-in_err-sum.ensures.1 in
    rw (p.1, p.2) (passing_of passes_Q Sum c.args.left c.args.right (Err c.in_err-sum.field-0.0) c.in_err-sum.ensures)

pub quotient-requires : goal.quotient-requires
quotient-requires c =
    let two : c.in_ok-two.two ≡ 1ℚ +ℚ 1ℚ =
    value_of (λ (t : ℚ). t ≡ 1ℚ +ℚ 1ℚ) passes_Q Sum c.one.result c.one-2.result (Ok c.in_ok-two.two) c.in_ok-two.ensures
    (ap (λ (t : ℚ). t +ℚ c.one-2.result) c.one.ensures ∙ ap (λ (t : ℚ). 1ℚ +ℚ t) c.one-2.ensures) in
    (omega arith, two_apart c.in_ok-two.two two)

pub returns-clause-mean : goal.returns-clause-mean
returns-clause-mean c =
    let two : c.in_ok-two.two ≡ 1ℚ +ℚ 1ℚ =
    value_of (λ (t : ℚ). t ≡ 1ℚ +ℚ 1ℚ) passes_Q Sum c.one.result c.one-2.result (Ok c.in_ok-two.two) c.in_ok-two.ensures
    (ap (λ (t : ℚ). t +ℚ c.one-2.result) c.one.ensures ∙ ap (λ (t : ℚ). 1ℚ +ℚ t) c.one-2.ensures) in
    let sum : c.in_ok-sum.sum ≡ c.args.left +ℚ c.args.right =
    value_of (λ (s : ℚ). s ≡ c.args.left +ℚ c.args.right) passes_Q Sum c.args.left c.args.right (Ok c.in_ok-sum.sum) c.in_ok-sum.ensures refl in
    value_of (λ (m : ℚ). m +ℚ m ≡ c.args.left +ℚ c.args.right) passes_Q Quotient c.in_ok-sum.sum c.in_ok-two.two c.quotient.result c.quotient.ensures
    (half_twice c.in_ok-sum.sum c.in_ok-two.two two ∙ sum)

pub returns-clause-passed : goal.returns-clause-passed
returns-clause-passed c = passing_of passes_Q Quotient c.in_ok-sum.sum c.in_ok-two.two c.quotient.result c.quotient.ensures
