use Rattle.std.proofs.Common.{◌++◌, sym, ap, subst, ◌∙◌, arith, Option}
use Rattle.nf_phase_curves.proofs.Common.{option_to_list, ℚ, AreBefore}
use Rattle.nf_phase_curves.proofs.LastSlopes.{two_points, none_before}
use Rattle.nf_phase_curves.proofs.traces.GrowingTrace.of.Goals as goal

pub ended-requires : goal.ended-requires
ended-requires c = λ some.
    two_points c.args.trace.now.curve.points c.args.trace.now.rates.items c.pop-last.new.self.items c.pop-last.result c.requires
    (sym (c.in_ok-rates.ensures.items_if_clones_equal (λ x y e. e) ∙ c.as_slice.ensures.value) ∙ c.pop-last.ensures.items) some

pub invariant_of-result : goal.invariant_of-result
invariant_of-result c =
    subst (AreBefore c.pop-last.new.self.items) (sym c.in_ok-curve.ensures.slope)
    (none_before c.in_ok-rates.rates.items c.pop-last.new.self.items c.pop-last.result c.in_ok-rates.rates.len
    (omega (arith, c.in_ok-rates.rates.ok.0)) c.pop-last.ensures.items c.pop-last.ensures.variant)

pub returns : goal.returns
returns c = λ i. record {
  points = c.in_ok-curve.ensures.points i;
  rates =
      (ap (λ (o : Option ℚ). c.pop-last.new.self.items ++ option_to_list o) c.in_ok-curve.ensures.slope ∙ sym c.pop-last.ensures.items
      ∙ c.in_ok-rates.ensures.items_if_clones_equal (λ x y e. e) ∙ c.as_slice.ensures.value) i;
}
