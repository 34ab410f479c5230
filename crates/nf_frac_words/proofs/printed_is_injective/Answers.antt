use Rattle.nf_frac_words.proofs.ReadBack.{printed_injective}
use Rattle.nf_frac_words.proofs.printed_is_injective.Goals as goal

pub returns : goal.returns
returns c = printed_injective
