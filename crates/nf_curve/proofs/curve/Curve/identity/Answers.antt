use Rattle.std.proofs.Common.{◌≡◌, Bool, false, List, sym, subst, IsTrue}
use Rattle.nf_curve.proofs.Common.{ℚ, ◌<ℚ◌, last_time}
use Rattle.nf_curve.proofs.Points.{positive}
use Rattle.nf_curve.proofs.curve.Curve.identity.Goals as goal

pub push-requires : goal.push-requires
push-requires c =
    subst (λ (l : List (ℚ × ℚ)). last_time l <ℚ c.args.last) (sym c.in_ok-line.ensures) (positive c.args.last c.requires (λ e. no (c.is_zero.ensures.zero.1 e) c.if-not-is_zero.true))
  where
    no : {b : Bool} → IsTrue b → b ≡ false → ⊥
    no {b} t e = absurd (cc)
