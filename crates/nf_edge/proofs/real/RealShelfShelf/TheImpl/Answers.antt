use Rattle.std.proofs.Common.{refl, inl}
use Rattle.nf_edge.proofs.Rising.{rose}
use Rattle.nf_edge.proofs.Returned.{any_value}
use Rattle.nf_edge.proofs.real.RealShelfShelf.TheImpl.Goals as goal

pub fetch-tells : goal.fetch-tells
fetch-tells g c = record {
  taken = c.ensures.taken;
  told = any_value c.result _ (λ _. tt);
  same = λ _. refl;
  failed = λ e. rose _ _ (c.ensures.failed e);
  never_falls = c.ensures.never_falls;
  too_long = c.ensures.too_long;
  long = λ more. inl (c.ensures.long more);
  told_too_long = λ _. tt;
  told_long = tt;
  asked = c.ensures.asked;
}
