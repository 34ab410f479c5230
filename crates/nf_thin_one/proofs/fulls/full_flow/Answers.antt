use Rattle.std.proofs.Common.{Option, sym, ap, ◌∙◌}
use Rattle.nf_thin_one.proofs.Common.{ℚ, passes_Q}
use Rattle.std.specs.Result.{result_ok}
use Rattle.nf_thin_one.specs.Fulls.{full_of}
use Rattle.nf_thin_one.proofs.fulls.full_flow.Goals as goal

pub returns-in-Some : goal.returns-in-Some
returns-in-Some c = c.ok.ensures.value ∙ (ap result_ok c.product.ensures ∙ ap (λ (o : Option ℚ). full_of passes_Q o c.args.head_slope) (sym c.in-Some.is))
