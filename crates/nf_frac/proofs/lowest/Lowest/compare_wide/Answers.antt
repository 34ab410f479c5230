use Rattle.std.proofs.Common.{◌∙◌, ◌*◌, ℕ}
use Rattle.nf_frac.proofs.Common.{nat_cmp}
use mathlib.Core.Path.{ap₂}
use Rattle.nf_frac.proofs.Compare.{both_not_negative, both_negative, left_negative, right_negative, cmp_is}
use Rattle.nf_frac.proofs.Form.{parts_of, num_plain}
use Rattle.nf_frac.proofs.lowest.Lowest.compare_wide.Goals as goal

pub returns-then-right-lt0 : goal.returns-then-right-lt0
returns-then-right-lt0 c =
    let p = parts_of c.self.invariant c.self.view_is in
    let q = parts_of c.right.invariant c.right.view_is in
    c.compare_quotients.ensures
    ∙ ap₂ (λ (a b : ℕ). nat_cmp (a * c.self.inside.den) (b * c.right.inside.den)) c.unsigned_abs.ensures.value c.unsigned_abs-then-right-lt0.ensures.value
    ∙ both_negative _ _ c.self.inside.den c.right.inside.den c.if-self-lt0.true c.if-right-lt0.true
    ∙ cmp_is c.args.self.now c.args.right.now _ _ _ _ (num_plain c.self.invariant c.self.view_is) (num_plain c.right.invariant c.right.view_is) p.den q.den

pub returns-else-right-lt0 : goal.returns-else-right-lt0
returns-else-right-lt0 c =
    let p = parts_of c.self.invariant c.self.view_is in
    let q = parts_of c.right.invariant c.right.view_is in
    left_negative _ _ c.self.inside.den c.right.inside.den c.right.invariant.positive c.if-self-lt0.true c.if-right-lt0.false
    ∙ cmp_is c.args.self.now c.args.right.now _ _ _ _ (num_plain c.self.invariant c.self.view_is) (num_plain c.right.invariant c.right.view_is) p.den q.den

pub returns-then-right-lt0-2 : goal.returns-then-right-lt0-2
returns-then-right-lt0-2 c =
    let p = parts_of c.self.invariant c.self.view_is in
    let q = parts_of c.right.invariant c.right.view_is in
    right_negative _ _ c.self.inside.den c.right.inside.den c.self.invariant.positive c.if-self-lt0.false c.if-right-lt0-2.true
    ∙ cmp_is c.args.self.now c.args.right.now _ _ _ _ (num_plain c.self.invariant c.self.view_is) (num_plain c.right.invariant c.right.view_is) p.den q.den

pub returns-else-right-lt0-2 : goal.returns-else-right-lt0-2
returns-else-right-lt0-2 c =
    let p = parts_of c.self.invariant c.self.view_is in
    let q = parts_of c.right.invariant c.right.view_is in
    c.compare_quotients-else-right-lt0-2.ensures
    ∙ ap₂ (λ (a b : ℕ). nat_cmp (a * c.right.inside.den) (b * c.self.inside.den)) c.unsigned_abs-else-right-lt0-2.ensures.value c.unsigned_abs-else-right-lt0-2-2.ensures.value
    ∙ both_not_negative _ _ c.self.inside.den c.right.inside.den c.if-self-lt0.false c.if-right-lt0-2.false
    ∙ cmp_is c.args.self.now c.args.right.now _ _ _ _ (num_plain c.self.invariant c.self.view_is) (num_plain c.right.invariant c.right.view_is) p.den q.den
