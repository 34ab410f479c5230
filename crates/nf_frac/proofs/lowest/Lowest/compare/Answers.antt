use Rattle.std.proofs.Common.{ℕ, pos, ◌*ℤ◌, ◌∙◌, sym, ap}
use Rattle.nf_frac.proofs.Common.{int_cmp}
use mathlib.Core.Path.{ap₂}
use Rattle.nf_frac.proofs.Compare.{over_same}
use Rattle.nf_frac.proofs.Form.{parts_of}
use Rattle.nf_frac.proofs.lowest.Lowest.compare.Goals as goal

pub returns-then-self-right : goal.returns-then-self-right
returns-then-self-right c =
    let x = c.args.self in
    let y = c.args.right in
    let p = parts_of c.self.invariant c.self.view_is in
    let q = parts_of c.right.invariant c.right.view_is in
    c.cmp.ensures
    ∙ ap₂ int_cmp (sym p.num) (sym q.num)
    ∙ over_same x.num y.num x.den x.positive
    ∙ ap (λ (k : ℕ). int_cmp (x.num *ℤ pos k) (y.num *ℤ pos x.den)) (p.den ∙ c.if-self-right.true ∙ sym q.den)
