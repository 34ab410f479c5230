use Rattle.nf_thin_laws.proofs.Searches.{one_answer}
use Rattle.nf_thin_laws.proofs.search_has_one_answer.Goals as goal

pub returns : goal.returns
returns c = one_answer
