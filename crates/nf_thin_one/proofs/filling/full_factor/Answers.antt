use Rattle.std.proofs.Common.{sym, ap, ◌∙◌, Option, unwrap_or}
use Rattle.nf_thin_one.proofs.Common.{ℚ, 0ℚ, neg_ℚ, Link}
use Rattle.nf_thin_one.proofs.LinkEntries.{minus_zero}
use Rattle.nf_thin_one.proofs.filling.full_factor.Goals as goal

pub returns-in-Some : goal.returns-in-Some
returns-in-Some c = c.negated.ensures ∙ ap (λ (o : Option ℚ). neg_ℚ (unwrap_or o 0ℚ)) (sym c.in-Some.is ∙ ap (λ (l : Link). l.capacity) c.link.view_is)

pub returns-in-None : goal.returns-in-None
returns-in-None c = c.zero.ensures ∙ (minus_zero ∙ ap (λ (o : Option ℚ). neg_ℚ (unwrap_or o 0ℚ)) (sym c.in-None.is ∙ ap (λ (l : Link). l.capacity) c.link.view_is))
