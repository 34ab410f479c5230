use Rattle.std.proofs.Common.{ℕ, ◌-◌, ◌%◌, ◌≤◌, ◌∙◌, ap, arith}
use Rattle.nf_frac.proofs.Common.{trailing_zeros, IsGcd-swap, IsGcd-from_sub}
use mir.Syntax.{w64}
use Rattle.nf_frac.proofs.Halving.{step, odd_min, same_number, one_found}
use Rattle.nf_frac.proofs.whole.gcd_odd.Goals as goal

pub loop-x-preserved : goal.loop-x-preserved
loop-x-preserved c =
    let odd = ap (λ (m : ℕ). m % 2) c.min-less.ensures ∙ odd_min c.loop-x.x c.loop-x.y c.loop-x.invariant.left c.loop-x.invariant.right in
    let ordered : c.min-less.result ≤ c.max.result = omega (arith, c.min-less.ensures, c.max.ensures) in
    record {
      left = odd;
      right = c.odd_part-y.ensures.odd;
      same = λ g h. c.loop-x.invariant.same g
          (step c.loop-x.x c.loop-x.y c.min-less.result c.max.result (c.max.result - c.min-less.result) c.min-less.ensures c.max.ensures
          (λ d k. IsGcd-from_sub c.max.result c.min-less.result d ordered (IsGcd-swap c.min-less.result (c.max.result - c.min-less.result) d k))
          c.odd_part-y.result (trailing_zeros w64 (c.max.result - c.min-less.result)) g odd c.odd_part-y.ensures.power h);
    }

pub returns-then-less-eq1 : goal.returns-then-less-eq1
returns-then-less-eq1 c = one_found c.args.a c.args.b c.loop-x.x c.loop-x.y c.min-less.result c.min-less.ensures c.if-less-eq1.true c.loop-x.invariant.same

pub returns : goal.returns
returns c = same_number c.args.a c.args.b c.loop-x.x c.loop-x.y c.loop-x-test.false c.loop-x.invariant.same
