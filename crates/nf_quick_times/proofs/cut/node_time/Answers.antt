use Rattle.std.proofs.Common.{sym, ap, ◌∙◌, Result, Ok, Err}
use Rattle.nf_quick_times.proofs.Common.{ℚ, min_ℚ, at_part, ◌>>=◌, at_most}
use Rattle.nf_frac_def.specs.declared.Part.TheVariants.{Quick}
use Rattle.nf_frac_def.specs.declared.Passed.{Passed}
use Rattle.nf_quick_times.proofs.cut.node_time.Goals as goal

pub returns-in-None : goal.returns-in-None
returns-in-None c = rw c.in-None.is (ap Ok c.at_most-so_far.ensures)

pub returns-in-Some : goal.returns-in-Some
returns-in-Some c = rw c.in-Some.is (ap Err c.at-from.ensures
    ∙ sym (ap (λ (r : Result ℚ (Passed ℚ)). at_part Quick (r >>= λ back. Ok (min_ℚ (at_most c.args.from_source c.args.time) back))) (sym c.sum.ensures ∙ c.in-Err-at.is)))

pub returns-in-Ok-at : goal.returns-in-Ok-at
returns-in-Ok-at c = rw c.in-Some.is (ap Ok (c.lesser.ensures ∙ ap (λ (x : ℚ). min_ℚ x c.in-Ok-at.field-0) c.at_most-so_far.ensures)
    ∙ sym (ap (λ (r : Result ℚ (Passed ℚ)). at_part Quick (r >>= λ back. Ok (min_ℚ (at_most c.args.from_source c.args.time) back))) (sym c.sum.ensures ∙ c.in-Ok-at.is)))
