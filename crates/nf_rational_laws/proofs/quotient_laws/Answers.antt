use Rattle.std.proofs.Common.{◌∙◌}
use Rattle.nf_rational_laws.proofs.Field.{*ℚ_comm}
use Rattle.nf_rational_laws.proofs.Quotient.{/ℚ-times, /ℚ-unique}
use Rattle.nf_rational_laws.proofs.quotient_laws.Goals as goal

pub returns : goal.returns
returns c = record {
  times_quotient = λ x y h. *ℚ_comm y _ ∙ /ℚ-times x y h;
  only_one = λ x y q h e. /ℚ-unique x y q h (*ℚ_comm q y ∙ e);
}
