use Rattle.nf_thin_laws.proofs.FirmListed.{firm_listed, all_ascend}
use Rattle.nf_thin_laws.proofs.firm_assignments_are_listed.Goals as goal

pub returns : goal.returns
returns c = λ nodes source hops sets unbounded base listed tight full zero is_base is_listed firm. (
  λ q in_q. firm_listed nodes source hops sets unbounded base listed tight full zero is_base is_listed firm q in_q,
  all_ascend base tight full zero,
)
