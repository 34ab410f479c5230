use Rattle.std.proofs.Common.{List, length, sym, ap, subst, ◌∙◌}
use Rattle.nf_thin_balance.proofs.Common.{true≢false, none-some, Range, AreFlowsWithin}
use Rattle.nf_thin_balance.proofs.leaves.comes_out.Goals as goal

pub loop-v-init : goal.loop-v-init
loop-v-init c = record { count = c.requires; within = λ flow within conserves. within }

pub loop-v-preserved : goal.loop-v-preserved
loop-v-preserved c = record {
  count = c.close_from.ensures.count;
  within = λ flow within conserves. (c.close_from.ensures.keeps flow (c.loop-v.invariant.within flow within conserves) conserves).1;
}

pub returns-then-not-close_from : goal.returns-then-not-close_from
returns-then-not-close_from c flow within conserves =
    absurd (true≢false (sym (c.close_from.ensures.keeps flow (c.loop-v.invariant.within flow within conserves) conserves).0 ∙ c.if-not-close_from.true))

pub close_from-requires-clause-ranges : goal.close_from-requires-clause-ranges
close_from-requires-clause-ranges c = c.loop-v.invariant.count

pub first_unbalanced-requires : goal.first_unbalanced-requires
first_unbalanced-requires c = ap (λ (l : List Range). length l) c.deref-2.ensures.value ∙ c.loop-v.invariant.count

pub returns-in-Some : goal.returns-in-Some
returns-in-Some c flow within conserves = absurd (none-some c.in-Some.field-0 (sym (c.in_ok-first_unbalanced.ensures flow
    (subst (λ (l : List Range). AreFlowsWithin l flow) (sym c.deref-2.ensures.value) (c.loop-v.invariant.within flow within conserves)) conserves) ∙ c.in-Some.is))
