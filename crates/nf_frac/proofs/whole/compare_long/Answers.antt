use Rattle.std.proofs.Common.{◌∙◌, arith}
use Rattle.nf_frac.proofs.Compare.{decided, ended, one_of, turned}
use Rattle.nf_frac.proofs.whole.compare_long.Goals as goal

pub returns-then-whole-other_whole : goal.returns-then-whole-other_whole
returns-then-whole-other_whole c =
    c.cmp.ensures ∙ decided _ _ _ _ c.loop-whole.invariant.left c.loop-whole.invariant.right c.if-whole-other_whole.true ∙ c.loop-whole.invariant.same

pub returns-then-rest-eq0 : goal.returns-then-rest-eq0
returns-then-rest-eq0 c =
    c.cmp-then-rest-eq0.ensures ∙ ended _ _ _ _ c.loop-whole.invariant.left c.loop-whole.invariant.right c.if-whole-other_whole.false
    (one_of c.then-rest-eq0.either) ∙ c.loop-whole.invariant.same

pub loop-whole-preserved : goal.loop-whole-preserved
loop-whole-preserved c = record {
  left = omega arith;
  right = omega arith;
  same = turned _ _ _ _ c.if-whole-other_whole.false ∙ c.loop-whole.invariant.same;
}
