use Rattle.std.proofs.Common.{rules, ◌≡◌, ◌<◌, List, Option, Some, None, set, replicate, sym, subst, ap, refl, ◌∙◌}
use Rattle.nf_graph.proofs.Common.{with_items_is, err_from_is_err_and, ℚ, StopsAt, PassesAt, IsNearest}
use Rattle.nf_graph.proofs.Entries.{unsettled}
use Rattle.nf_graph.proofs.Offering.{ForPassed-weaker}
use Rattle.nf_graph.proofs.Settling.{AreSettled, offering_along, settled_first, settled_next, unsettled_next, settled_last, none_passes, passes_at}
use Rattle.nf_graph.proofs.distance.distances.Goals as goal

pub loop-step-init : goal.loop-step-init
loop-step-init c =
    let none : c.in_ok-sums.sums.items ≡ replicate c.args.nodes None = c.in_ok-sums.ensures.items_if_clones_equal (λ y e. search rules) in
    let start : AreSettled c.args.nodes c.args.hops.now c.args.from c.settle.new.sums =
    settled_first c.args.nodes c.args.hops.now c.args.from c.settle.new.sums c.zero.result c.requires.transits
    (c.settle.ensures.sums ∙ ap (λ (ss : List (Option ℚ)). set ss c.args.from (Some c.zero.result)) (c.deref_mut.ensures.value ∙ none)) c.requires.from c.zero.ensures in
    offering_along c.args.nodes c.args.hops.now c.args.from c.settle.new.sums _ c.settle.new.offers _
    (with_items_is c.in_ok-sums.sums c.settle.new.sums (c.settle.auto.sums ∙ c.deref_mut.ensures.len))
    (with_items_is c.in_ok-offers.offers c.settle.new.offers (c.settle.auto.offers ∙ c.deref_mut-2.ensures.len)) start c.in_ok-settle.ensures.offers

pub returns-in_err-settle-clause-passed : goal.returns-in_err-settle-clause-passed
returns-in_err-settle-clause-passed c =
    let none : c.in_ok-sums.sums.items ≡ replicate c.args.nodes None = c.in_ok-sums.ensures.items_if_clones_equal (λ y e. search rules) in
    let start : AreSettled c.args.nodes c.args.hops.now c.args.from c.settle.new.sums =
    settled_first c.args.nodes c.args.hops.now c.args.from c.settle.new.sums c.zero.result c.requires.transits
    (c.settle.ensures.sums ∙ ap (λ (ss : List (Option ℚ)). set ss c.args.from (Some c.zero.result)) (c.deref_mut.ensures.value ∙ none)) c.requires.from c.zero.ensures in
    let p = err_from_is_err_and c.from_residual-in_err-settle.result c.from_residual-in_err-settle.ensures.1 in
    rw (p.1, p.2) (ForPassed-weaker (StopsAt c.args.hops.now c.settle.new.sums) (PassesAt c.args.hops.now c.args.from) c.in_err-settle.field-0.0
    (passes_at c.args.nodes c.args.hops.now c.args.from c.settle.new.sums c.requires.ends c.requires.transits start) c.in_err-settle.ensures.passed)

pub loop-step-smaller : goal.loop-step-smaller
loop-step-smaller c =
    let near : IsNearest c.loop-step.sums.items c.loop-step.offers.items (Some c.in-Some.step) =
    subst (λ (ss : List (Option ℚ)). IsNearest ss c.loop-step.offers.items (Some c.in-Some.step)) c.deref.ensures.value
    (subst (λ (os : List (Option ℚ)). IsNearest c.deref.result.now os (Some c.in-Some.step)) c.deref-in-loop-step.ensures.value c.in-Some.ensures) in
    let next : c.settle-in-Some.new.sums ≡ set c.loop-step.sums.items c.in-Some.step.node (Some c.in-Some.step.sum) =
    c.settle-in-Some.ensures.sums ∙ ap (λ (ss : List (Option ℚ)). set ss c.in-Some.step.node (Some c.in-Some.step.sum)) c.deref_mut-in-Some.ensures.value in
    subst (λ (ss : List (Option ℚ)). unsettled ss < unsettled c.loop-step.sums.items)
    (sym (with_items_is c.loop-step.sums c.settle-in-Some.new.sums (c.settle-in-Some.auto.sums ∙ c.deref_mut-in-Some.ensures.len)))
    (unsettled_next c.args.nodes c.args.hops.now c.args.from c.loop-step.sums.items c.requires.ends c.requires.transits c.loop-step.invariant.settled
    c.loop-step.offers.items (Some c.in-Some.step) c.loop-step.invariant.made near
    c.in-Some.step c.settle-in-Some.new.sums refl next)

pub loop-step-preserved : goal.loop-step-preserved
loop-step-preserved c =
    let near : IsNearest c.loop-step.sums.items c.loop-step.offers.items (Some c.in-Some.step) =
    subst (λ (ss : List (Option ℚ)). IsNearest ss c.loop-step.offers.items (Some c.in-Some.step)) c.deref.ensures.value
    (subst (λ (os : List (Option ℚ)). IsNearest c.deref.result.now os (Some c.in-Some.step)) c.deref-in-loop-step.ensures.value c.in-Some.ensures) in
    let next : c.settle-in-Some.new.sums ≡ set c.loop-step.sums.items c.in-Some.step.node (Some c.in-Some.step.sum) =
    c.settle-in-Some.ensures.sums ∙ ap (λ (ss : List (Option ℚ)). set ss c.in-Some.step.node (Some c.in-Some.step.sum)) c.deref_mut-in-Some.ensures.value in
    offering_along c.args.nodes c.args.hops.now c.args.from c.settle-in-Some.new.sums _ c.settle-in-Some.new.offers _
    (with_items_is c.loop-step.sums c.settle-in-Some.new.sums (c.settle-in-Some.auto.sums ∙ c.deref_mut-in-Some.ensures.len))
    (with_items_is c.loop-step.offers c.settle-in-Some.new.offers (c.settle-in-Some.auto.offers ∙ c.deref_mut-in-Some-2.ensures.len))
    (settled_next c.args.nodes c.args.hops.now c.args.from c.loop-step.sums.items c.requires.ends c.requires.transits c.loop-step.invariant.settled
    c.loop-step.offers.items (Some c.in-Some.step) c.loop-step.invariant.made near
    c.in-Some.step c.settle-in-Some.new.sums refl next) c.in_ok-settle-2.ensures.offers

pub returns-in_err-settle-2-clause-passed : goal.returns-in_err-settle-2-clause-passed
returns-in_err-settle-2-clause-passed c =
    let near : IsNearest c.loop-step.sums.items c.loop-step.offers.items (Some c.in-Some.step) =
    subst (λ (ss : List (Option ℚ)). IsNearest ss c.loop-step.offers.items (Some c.in-Some.step)) c.deref.ensures.value
    (subst (λ (os : List (Option ℚ)). IsNearest c.deref.result.now os (Some c.in-Some.step)) c.deref-in-loop-step.ensures.value c.in-Some.ensures) in
    let next : c.settle-in-Some.new.sums ≡ set c.loop-step.sums.items c.in-Some.step.node (Some c.in-Some.step.sum) =
    c.settle-in-Some.ensures.sums ∙ ap (λ (ss : List (Option ℚ)). set ss c.in-Some.step.node (Some c.in-Some.step.sum)) c.deref_mut-in-Some.ensures.value in
    let p = err_from_is_err_and c.from_residual-in_err-settle-2.result c.from_residual-in_err-settle-2.ensures.1 in
    rw (p.1, p.2) (ForPassed-weaker (StopsAt c.args.hops.now c.settle-in-Some.new.sums) (PassesAt c.args.hops.now c.args.from) c.in_err-settle-2.field-0.0
    (passes_at c.args.nodes c.args.hops.now c.args.from c.settle-in-Some.new.sums c.requires.ends c.requires.transits
    (settled_next c.args.nodes c.args.hops.now c.args.from c.loop-step.sums.items c.requires.ends c.requires.transits c.loop-step.invariant.settled
    c.loop-step.offers.items (Some c.in-Some.step) c.loop-step.invariant.made near
    c.in-Some.step c.settle-in-Some.new.sums refl next)) c.in_err-settle-2.ensures.passed)

pub returns-clause-sums : goal.returns-clause-sums
returns-clause-sums c =
    let near : IsNearest c.loop-step.sums.items c.loop-step.offers.items c.nearest.result =
    subst (λ (ss : List (Option ℚ)). IsNearest ss c.loop-step.offers.items c.nearest.result) c.deref.ensures.value
    (subst (λ (os : List (Option ℚ)). IsNearest c.deref.result.now os c.nearest.result) c.deref-in-loop-step.ensures.value c.nearest.ensures) in
    settled_last c.args.nodes c.args.hops.now c.args.from c.loop-step.sums.items c.requires.ends c.requires.transits c.loop-step.invariant.settled
    c.loop-step.offers.items c.nearest.result c.loop-step.invariant.made near c.in_default.is

pub returns-clause-fits : goal.returns-clause-fits
returns-clause-fits c =
    let near : IsNearest c.loop-step.sums.items c.loop-step.offers.items c.nearest.result =
    subst (λ (ss : List (Option ℚ)). IsNearest ss c.loop-step.offers.items c.nearest.result) c.deref.ensures.value
    (subst (λ (os : List (Option ℚ)). IsNearest c.deref.result.now os c.nearest.result) c.deref-in-loop-step.ensures.value c.nearest.ensures) in
    none_passes c.args.nodes c.args.hops.now c.args.from c.loop-step.sums.items c.requires.ends c.requires.transits c.loop-step.invariant.settled
    c.loop-step.offers.items c.nearest.result c.loop-step.invariant.made near c.in_default.is
