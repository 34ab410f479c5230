use Rattle.nf_frac.proofs.Bits.{size_of}
use Rattle.nf_frac.proofs.SmallParts.{narrowed_fits, cast_quotient_fits, wide_quotient_fits, wide_quotient}
use Rattle.nf_frac.proofs.whole.shortened.Goals as goal

pub overflow_cast-result : goal.overflow_cast-result
overflow_cast-result c = narrowed_fits c.args.a (size_of c.args.a _ _ c.ranges.a c.unsigned_abs.ensures.value c.if-unsigned_abs-le-SHORT.true)

pub nonzero_div-result : goal.nonzero_div-result
nonzero_div-result c = (
  c.requires.positive,
  cast_quotient_fits c.args.a c.args.b (size_of c.args.a _ _ c.ranges.a c.unsigned_abs.ensures.value c.if-unsigned_abs-le-SHORT.true) c.if-b-le-SHORT.true,
)

pub overflow_cast-result-then-b-le-SHORT-2 : goal.overflow_cast-result-then-b-le-SHORT-2
overflow_cast-result-then-b-le-SHORT-2 c =
    wide_quotient_fits c.args.a c.args.b (size_of c.args.a _ _ c.ranges.a c.unsigned_abs.ensures.value c.if-unsigned_abs-le-SHORT.true) c.if-b-le-SHORT.true

pub returns-then-b-le-SHORT : goal.returns-then-b-le-SHORT
returns-then-b-le-SHORT c =
    wide_quotient c.args.a c.args.b (size_of c.args.a _ _ c.ranges.a c.unsigned_abs.ensures.value c.if-unsigned_abs-le-SHORT.true) c.if-b-le-SHORT.true
