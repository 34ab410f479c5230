use Rattle.std.proofs.Common.{◌≡◌, List, length, sym, ap, subst, refl, ◌∙◌, Ok, Vec, Global}
use Rattle.nf_complete.proofs.Common.{err_from_is_err_and, ℚ, passes_Q, cancel_list, Cancels, IsNextCycle, fulls_count, value_of, AreForestBelow}
use Rattle.nf_complete.proofs.Common.{ClosesNext}
use Rattle.nf_complete.proofs.CancelsOn.{interior_found, interior_known, closes_at, none_at, known_first, known_on, list_at, halts_of, cancels_first}
use Rattle.nf_complete.proofs.CancelsOn.{cancels_more, cancels_end, cancels_stop, fewer_interior}
use Rattle.nf_complete.proofs.settling.cancelled.Goals as goal

pub loop-new-init : goal.loop-new-init
loop-new-init c = λ slopes t. (
  cancels_first passes_Q c.args.net.now.net c.args.sets.now t.rate slopes c.args.fulls.now c.args.flows.now c.in_ok-new.new.items
      (c.in_ok-new.ensures.items_if_clones_equal (λ x y e. e)) t.thin,
  known_first passes_Q c.args.net.now.net c.args.sets.now t.rate slopes c.args.fulls.now c.args.flows.now c.in_ok-new.new.items 0 refl,
)

pub next_cycle-requires-clause-sets : goal.next_cycle-requires-clause-sets
next_cycle-requires-clause-sets c = c.requires.sets.sets_are.count

pub next_cycle-requires-clause-flows : goal.next_cycle-requires-clause-flows
next_cycle-requires-clause-flows c =
    let slopes = c.requires.thin.0 in
    let t = c.requires.thin.1 in
    let on = c.loop-new.invariant slopes t in
    ap length c.deref.ensures.value ∙ on.0.thin.flow_count

pub next_cycle-requires-clause-known : goal.next_cycle-requires-clause-known
next_cycle-requires-clause-known c =
    let slopes = c.requires.thin.0 in
    let t = c.requires.thin.1 in
    let on = c.loop-new.invariant slopes t in
    interior_known passes_Q c.args.net.now.net c.args.sets.now slopes c.args.fulls.now t.filled c.deref.result.now
    (ap length c.deref.ensures.value ∙ on.0.thin.flow_count) c.loop-new.known
    (subst (λ (f : List ℚ). AreForestBelow c.args.net.now.net c.args.sets.now slopes f c.loop-new.known) (sym c.deref.ensures.value) on.1)

pub next_cycle-requires-clause-fulls : goal.next_cycle-requires-clause-fulls
next_cycle-requires-clause-fulls c =
    let slopes = c.requires.thin.0 in
    let t = c.requires.thin.1 in
    fulls_count passes_Q c.args.net.now.net c.args.sets.now slopes c.args.fulls.now t.filled

pub cancel-requires-clause-count : goal.cancel-requires-clause-count
cancel-requires-clause-count c =
    let slopes = c.requires.thin.0 in
    let t = c.requires.thin.1 in
    let on = c.loop-new.invariant slopes t in
    fulls_count passes_Q c.args.net.now.net c.args.sets.now slopes c.args.fulls.now t.filled
    ∙ sym (ap length c.deref-in-Some-2.ensures.value ∙ on.0.thin.flow_count)

pub cancel-requires-clause-fewer : goal.cancel-requires-clause-fewer
cancel-requires-clause-fewer c = c.requires.fewer

pub returns-in_err-new-2 : goal.returns-in_err-new-2
returns-in_err-new-2 c = λ slopes t.
    let on = c.loop-new.invariant slopes t in
    let next : IsNextCycle c.args.net.now.net c.args.sets.now slopes c.loop-new.new.items c.in-Some.cycle.steps.items =
    (closes_at (λ cycle. cycle.last) (λ cycle. cycle.steps.items) c.args.net.now.net c.args.sets.now slopes c.deref.result.now c.loop-new.new.items
    c.in_ok-cycle.field-0 c.in-Some.cycle c.deref.ensures.value c.in-Some.is
    (interior_found passes_Q c.args.net.now.net c.args.sets.now slopes c.args.fulls.now t.filled c.deref.result.now
    (ap length c.deref.ensures.value ∙ on.0.thin.flow_count) (λ cycle. cycle.last)
    (λ cycle. cycle.steps.items) c.in_ok-cycle.field-0 c.in_ok-cycle.ensures)).is_next in
    let p = err_from_is_err_and c.from_residual-in_err-new-2.result c.from_residual-in_err-new-2.ensures.1 in
    rw (p.1, p.2) (halts_of (Cancels passes_Q c.args.net.now.net c.args.sets.now slopes c.args.fulls.now c.args.flows.now) (λ (v : Vec ℚ Global). v.items)
    (cancel_list passes_Q c.deref-in-Some.result.now c.args.fulls.now c.deref-in-Some-2.result.now) c.in_err-new-2.field-0.0
    (λ q e. cancels_stop passes_Q c.args.net.now.net c.args.sets.now t.rate slopes c.args.fulls.now c.args.flows.now c.loop-new.new.items on.0 c.in-Some.cycle.steps.items next q
    (sym (list_at passes_Q c.args.fulls.now c.deref-in-Some.result.now c.in-Some.cycle.steps.items c.deref-in-Some-2.result.now c.loop-new.new.items
    c.deref-in-Some.ensures.value c.deref-in-Some-2.ensures.value) ∙ e))
    c.in_err-new-2.ensures)

pub loop-new-preserved : goal.loop-new-preserved
loop-new-preserved c = λ slopes t.
    let on = c.loop-new.invariant slopes t in
    let next : IsNextCycle c.args.net.now.net c.args.sets.now slopes c.loop-new.new.items c.in-Some.cycle.steps.items =
    (closes_at (λ cycle. cycle.last) (λ cycle. cycle.steps.items) c.args.net.now.net c.args.sets.now slopes c.deref.result.now c.loop-new.new.items
    c.in_ok-cycle.field-0 c.in-Some.cycle c.deref.ensures.value c.in-Some.is
    (interior_found passes_Q c.args.net.now.net c.args.sets.now slopes c.args.fulls.now t.filled c.deref.result.now
    (ap length c.deref.ensures.value ∙ on.0.thin.flow_count) (λ cycle. cycle.last)
    (λ cycle. cycle.steps.items) c.in_ok-cycle.field-0 c.in_ok-cycle.ensures)).is_next in
    let worked : cancel_list passes_Q c.in-Some.cycle.steps.items c.args.fulls.now c.loop-new.new.items ≡ Ok c.in_ok-new-2.new.items =
    sym (list_at passes_Q c.args.fulls.now c.deref-in-Some.result.now c.in-Some.cycle.steps.items c.deref-in-Some-2.result.now c.loop-new.new.items
    c.deref-in-Some.ensures.value c.deref-in-Some-2.ensures.value)
    ∙ value_of (cancel_list passes_Q c.deref-in-Some.result.now c.args.fulls.now c.deref-in-Some-2.result.now) c.in_ok-new-2.new.items (sym c.in_ok-new-2.ensures) in
    let closes : ClosesNext c.args.net.now.net c.args.sets.now slopes c.loop-new.new.items c.in-Some.cycle.last c.in-Some.cycle.steps.items =
    closes_at (λ cycle. cycle.last) (λ cycle. cycle.steps.items) c.args.net.now.net c.args.sets.now slopes c.deref.result.now c.loop-new.new.items
    c.in_ok-cycle.field-0 c.in-Some.cycle c.deref.ensures.value c.in-Some.is
    (interior_found passes_Q c.args.net.now.net c.args.sets.now slopes c.args.fulls.now t.filled c.deref.result.now
    (ap length c.deref.ensures.value ∙ on.0.thin.flow_count) (λ cycle. cycle.last)
    (λ cycle. cycle.steps.items) c.in_ok-cycle.field-0 c.in_ok-cycle.ensures) in (
      cancels_more passes_Q c.args.net.now.net c.args.sets.now t.rate slopes c.args.fulls.now c.args.flows.now c.loop-new.new.items on.0
          c.in-Some.cycle.steps.items next c.requires.sets t.filled c.in_ok-new-2.new.items worked,
      known_on passes_Q c.args.net.now.net c.args.sets.now t.rate slopes c.args.fulls.now c.args.flows.now c.loop-new.new.items on.0
          c.in-Some.cycle.steps.items next c.requires.sets t.filled c.in_ok-new-2.new.items worked c.in-Some.cycle.last closes.before,
    )

pub loop-new-smaller : goal.loop-new-smaller
loop-new-smaller c =
    let slopes = c.requires.thin.0 in
    let t = c.requires.thin.1 in
    let on = c.loop-new.invariant slopes t in
    let next : IsNextCycle c.args.net.now.net c.args.sets.now slopes c.loop-new.new.items c.in-Some.cycle.steps.items =
    (closes_at (λ cycle. cycle.last) (λ cycle. cycle.steps.items) c.args.net.now.net c.args.sets.now slopes c.deref.result.now c.loop-new.new.items
    c.in_ok-cycle.field-0 c.in-Some.cycle c.deref.ensures.value c.in-Some.is
    (interior_found passes_Q c.args.net.now.net c.args.sets.now slopes c.args.fulls.now t.filled c.deref.result.now
    (ap length c.deref.ensures.value ∙ on.0.thin.flow_count) (λ cycle. cycle.last)
    (λ cycle. cycle.steps.items) c.in_ok-cycle.field-0 c.in_ok-cycle.ensures)).is_next in
    let worked : cancel_list passes_Q c.in-Some.cycle.steps.items c.args.fulls.now c.loop-new.new.items ≡ Ok c.in_ok-new-2.new.items =
    sym (list_at passes_Q c.args.fulls.now c.deref-in-Some.result.now c.in-Some.cycle.steps.items c.deref-in-Some-2.result.now c.loop-new.new.items
    c.deref-in-Some.ensures.value c.deref-in-Some-2.ensures.value)
    ∙ value_of (cancel_list passes_Q c.deref-in-Some.result.now c.args.fulls.now c.deref-in-Some-2.result.now) c.in_ok-new-2.new.items (sym c.in_ok-new-2.ensures) in
    fewer_interior passes_Q c.args.net.now.net c.args.sets.now t.rate slopes c.args.fulls.now c.args.flows.now c.loop-new.new.items on.0
    c.in-Some.cycle.steps.items next c.requires.sets t.filled c.in_ok-new-2.new.items worked

pub returns : goal.returns
returns c = λ slopes t.
    let on = c.loop-new.invariant slopes t in
    cancels_end passes_Q c.args.net.now.net c.args.sets.now t.rate slopes c.args.fulls.now c.args.flows.now c.loop-new.new.items on.0
    (none_at (λ cycle. cycle.last) (λ cycle. cycle.steps.items) c.args.net.now.net c.args.sets.now slopes c.deref.result.now c.loop-new.new.items
    c.in_ok-cycle.field-0 c.deref.ensures.value c.in_default.is (interior_found passes_Q c.args.net.now.net c.args.sets.now slopes c.args.fulls.now
    t.filled c.deref.result.now (ap length c.deref.ensures.value ∙ on.0.thin.flow_count) (λ cycle. cycle.last)
    (λ cycle. cycle.steps.items) c.in_ok-cycle.field-0 c.in_ok-cycle.ensures))
