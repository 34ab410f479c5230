use Rattle.std.proofs.Common.{[]}
use Rattle.nf_thin_laws.proofs.Common.{at_rate}
use Rattle.nf_thin_laws.proofs.OneLink.{first_sets-are, OneLink-tight, OneLink-full, OneLink-phase, ArePieces-rate, starts_at_once, rate_at-once}
use Rattle.nf_thin_laws.proofs.one_link_has_phase.Goals as goal

pub returns : goal.returns
returns c = record {
  sets = first_sets-are;
  tight = λ transit capacity pieces rate h p q n fits. OneLink-tight transit capacity pieces h p q rate n fits;
  full = OneLink-full;
  phase = λ transit capacity rate horizon flows slopes h p n ahead thin.
      OneLink-phase transit capacity (at_rate rate []) h p (ArePieces-rate rate n) rate horizon flows slopes ahead (starts_at_once rate) (rate_at-once transit capacity rate) thin;
}
