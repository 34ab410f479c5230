use Rattle.std.proofs.Common.{sym, ◌∙◌, ap}
use Rattle.nf_frac.proofs.Common.{bound_of, ℚ}
use Rattle.nf_frac.proofs.Bits.{kept_below}
use Rattle.nf_frac.proofs.Passing.{within_along}
use Rattle.nf_frac.proofs.Written.{written, written_read, written_read_as_decimal}
use Rattle.nf_frac.proofs.fraction.Frac.write.Goals as goal

pub returns-clause-text : goal.returns-clause-text
returns-clause-text g c =
    written c.args.self _ _ (c.numer.ensures.value ∙ ap (λ (q : ℚ). q.num) c.self.view_is) c.numer.ensures.small
    (c.denom.ensures.value ∙ ap (λ (q : ℚ). q.den) c.self.view_is) _ c.write_parts.ensures

pub returns-clause-reads_back : goal.returns-clause-reads_back
returns-clause-reads_back g c =
    written_read c.args.self _ _ (c.numer.ensures.value ∙ ap (λ (q : ℚ). q.num) c.self.view_is) c.numer.ensures.small
    (c.denom.ensures.value ∙ ap (λ (q : ℚ). q.den) c.self.view_is) _ c.write_parts.ensures
    (bound_of g.row.BITS) (within_along (bound_of g.row.BITS) _ _ (sym c.self.view_is) c.self.invariant)

pub returns-clause-reads_back_as_decimal : goal.returns-clause-reads_back_as_decimal
returns-clause-reads_back_as_decimal g c =
    written_read_as_decimal c.args.self _ _ (c.numer.ensures.value ∙ ap (λ (q : ℚ). q.num) c.self.view_is) c.numer.ensures.small
    (c.denom.ensures.value ∙ ap (λ (q : ℚ). q.den) c.self.view_is) _ c.write_parts.ensures
    (bound_of g.row.BITS) (within_along (bound_of g.row.BITS) _ _ (sym c.self.view_is) c.self.invariant)

pub write_parts-requires-clause-num : goal.write_parts-requires-clause-num
write_parts-requires-clause-num g c = kept_below c.numer.result c.numer.ensures.small
