use Rattle.nf_residual.proofs.WholeLengths.{counted_fits, counted_is}
use Rattle.nf_residual.proofs.length.counted.Goals as goal

pub returns-then-unsigned_abs : goal.returns-then-unsigned_abs
returns-then-unsigned_abs c =
    counted_is c.args.value c.numer-number.result c.denom.result c.unsigned_abs.result c.numer-number.ensures.value c.numer-number.ensures.small
    c.denom.ensures.value (record { sfits = c.denom.type_inv }) c.if-denom-eq1.true
    c.unsigned_abs.ensures.value c.if-unsigned_abs.true

pub overflow_cast-result : goal.overflow_cast-result
overflow_cast-result c = counted_fits c.numer-number.result c.unsigned_abs.result c.unsigned_abs.ensures.value c.if-unsigned_abs.true
