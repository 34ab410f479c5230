use Rattle.nf_rational_laws.proofs.Common.{parts_ratio}
use Rattle.nf_rational_laws.proofs.Ratio.{same_cross}
use Rattle.nf_rational_laws.proofs.reduced_laws.Goals as goal

pub returns : goal.returns
returns c = record { crosswise = same_cross; own_parts = parts_ratio }
