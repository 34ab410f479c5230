use Rattle.std.proofs.Common.{ℤ, ℕ, pos, ◌*ℤ◌, ◌∙◌, sym, ap}
use Rattle.nf_frac.proofs.Common.{int_cmp}
use mathlib.Core.Path.{ap₂}
use Rattle.nf_frac.proofs.Compare.{over_same}
use Rattle.nf_frac.proofs.SmallParts.{short_parts, short_num, own_short, kept_short, times_plain}
use Rattle.nf_frac.proofs.small.Small.compare.Goals as goal

pub returns : goal.returns
returns c =
    let x = c.args.self in
    let y = c.args.right in
    let xw = own_short c.self.invariant c.self.view_is in
    let yw = own_short c.right.invariant c.right.view_is in
    let xd = sym (short_parts c.self.invariant c.self.view_is).den in
    let yd = sym (short_parts c.right.invariant c.right.view_is).den in
    c.cmp-2.ensures
    ∙ ap₂ int_cmp
    (times_plain c.times.result x.num y.den (c.times.ensures ∙ ap₂ (λ (z : ℤ) (k : ℕ). z *ℤ pos k) (short_num c.self.invariant c.self.view_is) yd) xw.small yw.small_den)
    (times_plain c.times-2.result y.num x.den (c.times-2.ensures ∙ ap₂ (λ (z : ℤ) (k : ℕ). z *ℤ pos k) (short_num c.right.invariant c.right.view_is) xd) yw.small xw.small_den)

pub returns-then-self-right : goal.returns-then-self-right
returns-then-self-right c =
    let x = c.args.self in
    let y = c.args.right in
    let xp = short_parts c.self.invariant c.self.view_is in
    let yp = short_parts c.right.invariant c.right.view_is in
    c.cmp.ensures
    ∙ ap₂ int_cmp (sym xp.num) (sym yp.num)
    ∙ over_same x.num y.num x.den x.positive
    ∙ ap (λ (k : ℕ). int_cmp (x.num *ℤ pos k) (y.num *ℤ pos x.den)) (xp.den ∙ c.if-self-right.true ∙ sym yp.den)

pub times-requires-clause-small : goal.times-requires-clause-small
times-requires-clause-small c = kept_short c.self.inside.num c.self.invariant.small

pub times-requires-2-clause-small : goal.times-requires-2-clause-small
times-requires-2-clause-small c = kept_short c.right.inside.num c.right.invariant.small
