use Rattle.std.proofs.Common.{◌≡◌, Bool, sym, ◌∙◌, ap, subst}
use Rattle.nf_frac.proofs.Common.{Decides, ℚ, 0ℚ, same_ℚ, same_decides}
use Rattle.nf_frac.proofs.Comparisons.{same_by_order}
use Rattle.nf_frac.proofs.fraction.Frac.is_zero.Goals as goal

pub returns-clause-by_order : goal.returns-clause-by_order
returns-clause-by_order g c =
    c.eq.ensures ∙ ap (λ (q : ℚ). same_ℚ c.args.self q) c.zero.ensures ∙ same_by_order c.args.self _

pub returns-clause-zero : goal.returns-clause-zero
returns-clause-zero g c =
    subst (λ (t : Bool). Decides t (c.args.self ≡ 0ℚ)) (sym (c.eq.ensures ∙ ap (λ (q : ℚ). same_ℚ c.args.self q) c.zero.ensures)) (same_decides c.args.self 0ℚ)
